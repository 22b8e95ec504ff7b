use Rattle.wshare.proofs.Alike.{chain_alike, chain_same, list_same}
use Rattle.wshare.proofs.sameness.+sameness.Goals as goal

pub is_chain-returns-then-same_value-clause-exact : goal.is_chain-returns-then-same_value-clause-exact
is_chain-returns-then-same_value-clause-exact t c =
    chain_same _ _ _ c.in-Chain.x c.args.links.now _ c.in-Chain.others _ _ c.in-Chain.is c.deref.ensures
    c.as_slice.ensures.value c.same_value.ensures.exact c.if-same_value.true c.same_links.ensures.exact

pub is_chain-returns-then-same_value-clause-alike : goal.is_chain-returns-then-same_value-clause-alike
is_chain-returns-then-same_value-clause-alike t c = λ h.
    chain_alike _ _ _ c.in-Chain.x c.args.links.now _ c.in-Chain.others c.in-Chain.is c.deref.ensures
    c.as_slice.ensures.value (c.same_value.ensures.alike c.if-same_value.true) (c.same_links.ensures.alike h)

pub is_list_test-returns-then-same_value-clause-exact : goal.is_list_test-returns-then-same_value-clause-exact
is_list_test-returns-then-same_value-clause-exact t c =
    list_same _ _ _ _ _ c.in-In.x c.args.list.now _ c.in-In.others _ _ _ c.in-In.is c.deref.ensures c.as_slice.ensures.value
    c.same_flag.ensures.exact c.if-same_flag.true c.same_value.ensures.exact c.if-same_value.true c.same_values.ensures.exact
