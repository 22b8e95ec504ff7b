-- How a declared view is stored, by which a proof tells such values apart.
use Rattle.std.specs.Prelude.{◌≡◌, ℕ, Bool, List, Option, None, Some, refl}
use Rattle.std.specs.Coded.{Coded, code_by, coded×, coded_ℕ, coded_list, coded_option, coded_bool}
use Rattle.wvalues.specs.declared.key.SortKey.{SortKey}
use Rattle.std.specs.FinMap as map
use Rattle.wvalues.specs.Names.{coded_name}
use Rattle.wsegment.specs.Declaration.{Declaration, coded_declaration}
use Rattle.wentries.specs.Knowledge.{Known, Live, Disputed, Retired, Floor}
use Rattle.wset.specs.Views.{View}
use Rattle.wset.specs.Sets.{DeclaredView}

-- what is known, as options in options, and back
abbrev pub known_parts : Known → Option (Option (Option (List ℕ)))
known_parts (Live bytes) = Some (Some (Some bytes))
known_parts Disputed = Some (Some None)
known_parts Retired = Some None
known_parts Floor = None

abbrev pub known_from : Option (Option (Option (List ℕ))) → Known
known_from None = Floor
known_from (Some None) = Retired
known_from (Some (Some None)) = Disputed
known_from (Some (Some (Some bytes))) = Live bytes

abbrev pub known_back : (k : Known) → known_from (known_parts k) ≡ k
known_back (Live bytes) = refl
known_back Disputed = refl
known_back Retired = refl
known_back Floor = refl

abbrev pub coded_known : Coded Known
coded_known =
    code_by (Option (Option (Option (List ℕ)))) (coded_option (coded_option (coded_option (coded_list coded_ℕ))))
    known_parts known_from known_back

abbrev pub coded_view : Coded View
coded_view = map.code coded_name coded_known

abbrev pub coded_key : Coded SortKey
coded_key =
    code_by (ℕ × (Bool × Bool)) (coded× coded_ℕ (coded× coded_bool coded_bool))
    (λ k. (k.col, (k.desc, k.nulls_first))) (λ p. record { col = p.0; desc = p.1.0; nulls_first = p.1.1 }) (λ _. refl)

abbrev pub coded_declared_view : Coded DeclaredView
coded_declared_view =
    code_by (Declaration × (View × List (List (List SortKey))))
    (coded× coded_declaration (coded× coded_view (coded_list (coded_list (coded_list coded_key)))))
    (λ s. (s.schema, (s.view, s.orders))) (λ p. record { schema = p.0; view = p.1.0; orders = p.1.1 }) (λ _. refl)
