-- Marks that are the same are written alike.
use Rattle.std.proofs.Common.{◌≡◌, true, ◌++◌, Option, Some, None, refl, sym, ap, ◌∙◌}
use Rattle.std.specs.Hash as fed
use Rattle.wquery.specs.declared.frame.Frame.{Frame}
use Rattle.wquery.specs.Tree.{Links, NoLinks, Further, Keys, NoKeys, MoreKeys}
use Rattle.wnodes.specs.Bounds.{end_of}
use Rattle.wnodes.specs.Sameness.{are_same_keys, are_same_links, mode_number, nulls_number, operator_number, same_frame}
use Rattle.wnodes.specs.Hashed.{list_end, written_bound, written_frame, written_keys, written_links, written_operators}
use Rattle.wnodes.specs.Plain.{plain_frame, plain_keys, plain_links, plain_number, to_frame, to_keys, to_links}

pub frame_kept : (f : Option Frame) → written_frame (plain_frame f) ≡ written_frame f
frame_kept None = refl
frame_kept (Some f) = λ i. fed.u8 1 ++ fed.u8 (mode_number f.mode) ++ written_bound f.start ++ written_bound (end_of f)
    ++ fed.u8 (plain_number f.exclusion i)

operators_kept : (ls : Links) → written_operators (plain_links ls) ≡ written_operators ls
operators_kept NoLinks = refl
operators_kept (Further front operator t) = λ i. operators_kept front i ++ fed.u8 (operator_number operator)

pub links_kept : (ls : Links) → written_links (plain_links ls) ≡ written_links ls
links_kept ls = λ i. operators_kept ls i ++ list_end

pub keys_kept : (ks : Keys) → written_keys (plain_keys ks) ≡ written_keys ks
keys_kept NoKeys = refl
keys_kept (MoreKeys t descending nulls more) = λ i. fed.bool descending ++ fed.u8 (nulls_number nulls) ++ keys_kept more i

pub links_written : (a b : Links) → are_same_links a b ≡ true → written_links a ≡ written_links b
links_written a b same = sym (links_kept a) ∙ ap written_links (to_links a b same) ∙ links_kept b

pub keys_written : (a b : Keys) → are_same_keys a b ≡ true → written_keys a ≡ written_keys b
keys_written a b same = sym (keys_kept a) ∙ ap written_keys (to_keys a b same) ∙ keys_kept b

pub frames_written : (f g : Option Frame) → same_frame f g ≡ true → written_frame f ≡ written_frame g
frames_written f g same = sym (frame_kept f) ∙ ap written_frame (to_frame f g same) ∙ frame_kept g
