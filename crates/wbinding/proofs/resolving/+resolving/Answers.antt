use Rattle.wbinding.specs.Resolving.{layout_of}
use Rattle.wbinding.proofs.Made.{call_made, chain_made, in_made, links_step}
use Rattle.wbinding.proofs.resolving.+resolving.Goals as goal

pub build-returns-in_ok-further-in-Chain : goal.build-returns-in_ok-further-in-Chain
build-returns-in_ok-further-in-Chain t c =
    chain_made (layout_of c.args.layout.now) c.args.e.now c.deref-in-Chain.result.now c.in-Chain.kind c.in-Chain.first
    c.in-Chain.links c.as_slice.result.now c.in_ok-x-in-Chain.x c.in_ok-further-in-Chain.further.items c.chain.result
    c.in-Chain.is c.deref-in-Chain.ensures c.as_slice.ensures.value c.in_ok-x-in-Chain.ensures
    c.in_ok-further-in-Chain.ensures c.chain.ensures

pub build_links-links-preserved : goal.build_links-links-preserved
build_links-links-preserved t c =
    links_step (layout_of c.args.layout.now) c.links.made.items c.push.new.self.items _ c.args.links.now c.links.link-index
    c.link-item.result c.in_ok-operand.operand c.links-test.true c.link-item.is c.in_ok-operand.ensures
    c.in_ok-push.ensures.items c.links.invariant

pub build-returns-in_ok-build-in-In : goal.build-returns-in_ok-build-in-In
build-returns-in_ok-build-in-In t c =
    in_made (layout_of c.args.layout.now) c.args.e.now c.deref-in-In-2.result.now c.in-In.negated c.in-In.item c.in-In.list
    c.deref-in-In.result.now c.in_ok-build-in-In.field-0 c.build_list_test.result c.in-In.is c.deref-in-In-2.ensures
    c.deref-in-In.ensures.value c.in_ok-build-in-In.ensures c.build_list_test.ensures

pub build-returns-in-Call : goal.build-returns-in-Call
build-returns-in-Call t c =
    call_made (layout_of c.args.layout.now) c.args.e.now c.in-Call.call _ c.deref-in-Call.result.now c.in-Call.is
    c.deref-in-Call.ensures c.answer.ensures
