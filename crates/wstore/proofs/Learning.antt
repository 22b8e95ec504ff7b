-- What a node learns from a file.
use Rattle.std.proofs.Common.{◌≡◌, ◌∙◌, Bool, ℕ, List, Result, Ok, Err, OnOk, ap, subst}
use Rattle.wsegment.specs.Declaration.{Declaration}
use Rattle.wset.specs.Views.{View, join}
use Rattle.wset.specs.Sets.{Becomes, DeclaredView}
use Rattle.wexchange.specs.Judging.{IsFileOf}
use Rattle.wstore.specs.Nodes.{NodeState, LearnsFile}

pub learned : (old : NodeState) (set file new : DeclaredView) (held : List ℕ) (bad : Bool) (s : Declaration)
    (bytes : List ℕ) → record { schema = set.schema; view = set.view; held = held; is_bad = bad } ≡ old → s ≡ set.schema
    → IsFileOf s file.view bytes → Becomes set (join set.view file.view) new
    → LearnsFile old bytes (record { schema = new.schema; view = new.view; held = held; is_bad = bad })
learned old set file new held bad s bytes e s_is f new_is =
    subst (λ (o : NodeState). LearnsFile o bytes (record { schema = new.schema; view = new.view; held = held; is_bad = bad })) e
    (record {
      view = file.view;
      file = subst (λ d. IsFileOf d file.view bytes) s_is f;
      new_is =
          ap (λ (d : Declaration). record { schema = d; view = new.view; held = held; is_bad = bad }) new_is.schema
          ∙ ap (λ (v : View). record { schema = set.schema; view = v; held = held; is_bad = bad }) new_is.view;
    })

-- what the node stands for when its set has a new view, whatever runs the set keeps
pub knows_now : {A E : Type 0} (r : Result A E) (old : NodeState) (set new : DeclaredView) (held : List ℕ) (bad : Bool)
    (f : View → View) → record { schema = set.schema; view = set.view; held = held; is_bad = bad } ≡ old
    → OnOk r (Becomes set (f set.view) new)
    → OnOk r (record { schema = new.schema; view = new.view; held = held; is_bad = bad } ≡ record old { view = f old.view })
knows_now (Err e) old set new held bad f is b = tt
knows_now (Ok x) old set new held bad f is b =
    ap (λ (d : Declaration). record { schema = d; view = new.view; held = held; is_bad = bad }) b.schema
    ∙ ap (λ (v : View). record { schema = set.schema; view = v; held = held; is_bad = bad }) b.view
    ∙ ap (λ (o : NodeState). record o { view = f o.view }) is

-- the node stands for the same when its set knows the same, whatever runs the set keeps
pub knows_same : (old : NodeState) (set new : DeclaredView) (held : List ℕ) (bad : Bool)
    → record { schema = set.schema; view = set.view; held = held; is_bad = bad } ≡ old → Becomes set set.view new
    → record { schema = new.schema; view = new.view; held = held; is_bad = bad } ≡ old
knows_same old set new held bad is b =
    ap (λ (d : Declaration). record { schema = d; view = new.view; held = held; is_bad = bad }) b.schema
    ∙ ap (λ (v : View). record { schema = set.schema; view = v; held = held; is_bad = bad }) b.view
    ∙ is
