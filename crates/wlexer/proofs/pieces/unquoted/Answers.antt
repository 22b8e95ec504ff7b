use Rattle.std.proofs.Common.{Some, None, rules}
use Rattle.std.proofs.lemmas.Str.{encode_ascii}
use Rattle.std.proofs.lemmas.Str.Pattern.{split_parts, strip_prefix_char}
use Rattle.std.specs.String.{string_bytes}
use Rattle.wlexer.proofs.Quotes.{closes, goes_on, stays_open, stops_without}
use Rattle.wlexer.proofs.pieces.unquoted.Goals as goal

pub returns-in_default-clause-none : goal.returns-in_default-clause-none
returns-in_default-clause-none c =
    let lacks = split_parts c.args.quote c.quoted.left.now None c.in_default.ensures.cases c.requires in
    stays_open c.args.quote c.args.text.now (string_bytes c.quoted.body) c.quoted.left.now c.quoted.invariant.so_far lacks

pub returns-in_default-strip_prefix-clause-found :
    goal.returns-in_default-strip_prefix-clause-found
returns-in_default-strip_prefix-clause-found c =
    let parts = split_parts c.args.quote c.quoted.left.now (Some (c.in-Some.piece, c.in-Some.after)) c.in-Some.ensures.cases c.requires in
    let lacks = strip_prefix_char c.args.quote c.in-Some.after.now None c.in_default-strip_prefix.ensures.cases c.requires in
    closes c.args.quote c.args.text.now (string_bytes c.quoted.body) c.quoted.left.now c.in-Some.piece.now
    c.in-Some.after.now _ c.quoted.invariant.so_far parts.0 parts.1 (stops_without _ _ lacks) c.in_ok-push_str.ensures.bytes

pub quoted-preserved : goal.quoted-preserved
quoted-preserved c =
    let parts = split_parts c.args.quote c.quoted.left.now (Some (c.in-Some.piece, c.in-Some.after)) c.in-Some.ensures.cases c.requires in
    let next = strip_prefix_char c.args.quote c.in-Some.after.now (Some c.in-Some-strip_prefix.further)
    c.in-Some-strip_prefix.ensures.cases c.requires in
    record {
      utf8 = search rules;
      so_far = goes_on c.args.quote c.args.text.now (string_bytes c.quoted.body) c.quoted.left.now c.in-Some.piece.now
          c.in-Some.after.now c.in-Some-strip_prefix.further.now _ c.quoted.invariant.so_far parts.0 parts.1 next
          (let behind = c.in_ok-push.ensures.bytes in let before = c.in_ok-push_str.ensures.bytes in let one =
          encode_ascii c.args.quote c.requires in cc);
    }
