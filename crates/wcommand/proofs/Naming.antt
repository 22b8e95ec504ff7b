-- Which subcommand a name is.
use Rattle.std.proofs.Common.{◌≡◌, ◌≢◌, Bool, cond, true, false, refl, sym, subst, List, Option}
use Rattle.std.proofs.Common.{Some, None, IsSomeAnd, option_map, map, find, codes, bytes_eq}
use Rattle.std.proofs.lemmas.Slice.Eq.{bytes_eq-Decides}
use Rattle.clap.specs.Words.{Row, Shape, Text}
use Rattle.wcommand.specs.CommandSet.{ask_shape, feed_shape, floor_shape, join_shape, list_shape, retire_shape}
use Rattle.wcommand.specs.CommandSet.{session_shape, shell_shape, subcommands, take_shape}
use Rattle.wcommand.specs.Required.{IsWhole, have_values}

differs : (a name : Text) → name ≢ a → bytes_eq a name ≡ false
differs a name n = go (bytes_eq a name) refl
  where
    go : (b : Bool) → bytes_eq a name ≡ b → b ≡ false
    go true e = absurd (n (sym ((bytes_eq-Decides a name).0 e)))
    go false e = refl

-- the one name that is left
pub only_session : (name : Text) (rows : List Row) → name ≢ codes "take" → name ≢ codes "retire" → name ≢ codes "floor"
    → name ≢ codes "join" → name ≢ codes "feed" → name ≢ codes "list" → name ≢ codes "ask" → name ≢ codes "shell"
    → IsWhole (Some (name, rows))
    → name ≡ codes "session"
only_session name rows a b c d e f g h w = go (bytes_eq (codes "session") name) refl
  where
    go : (t : Bool) → bytes_eq (codes "session") name ≡ t → name ≡ codes "session"
    go true s = sym ((bytes_eq-Decides (codes "session") name).0 s)
    go false s =
        let none : find (λ s. bytes_eq s.name name) subcommands ≡ None =
        (λ i. cond (s i) (Some session_shape)
        (cond (differs (codes "take") name a i) (Some take_shape)
        (cond (differs (codes "retire") name b i) (Some retire_shape)
        (cond (differs (codes "floor") name c i) (Some floor_shape)
        (cond (differs (codes "join") name d i) (Some join_shape)
        (cond (differs (codes "feed") name e i) (Some feed_shape)
        (cond (differs (codes "list") name f i) (Some list_shape)
        (cond (differs (codes "ask") name g i) (Some ask_shape)
        (cond (differs (codes "shell") name h i) (Some shell_shape) None))))))))) in
        absurd (subst (λ (o : Option Shape). IsSomeAnd (option_map (λ s. map (λ r. r.id) s.rules) o)
        (λ names. have_values rows names ≡ true)) none w)
