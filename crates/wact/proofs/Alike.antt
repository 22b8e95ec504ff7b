-- Two stores of one view act alike.
use Rattle.std.proofs.Common.{◌≡◌, ◌≢◌, ◌∙◌, refl, sym, ap, subst, inl, inr, ℕ, List, [], ◌∷◌, ◌++◌, Option, Some, None, Result, Ok, Err}
use Rattle.std.proofs.Common.{true≢false, append-nil}
use Rattle.std.specs.Prelude.{is_ok, is_err, codes, false, length, option_map, if◌then◌else◌}
use Rattle.std.specs.FinMap.{empty}
use Rattle.std.specs.List.{AllByRecursion, flat_map, list_any}
use Rattle.wvalues.specs.Names.{NameParts}
use Rattle.wvalues.specs.declared.name.NameFault.{NameFault}
use Rattle.wsegment.specs.Declaration.{Declaration}
use Rattle.wsegment.specs.Rows.{rows_of}
use Rattle.wsegment.specs.Spelling.{IsDeclaration, ReadsDeclaration, Spells}
use Rattle.wsegment.specs.declared.schema_fault.SchemaFault.{SchemaFault}
use Rattle.wsegment.specs.declared.fault.SegmentFault.{SegmentFault}
use Rattle.wsegment.proofs.SpellingFacts.{spells-one}
use Rattle.wset.specs.Items.{Item, SegmentItem}
use Rattle.wset.specs.Views.{View, join}
use Rattle.wexchange.specs.Judging.{IsFileOf}
use Rattle.wexchange.specs.Judging as judging
use Rattle.wexchange.specs.declared.fault.FileFault.{FileFault}
use Rattle.wexchange.specs.declared.fault.FileFault.TheVariants as files
use Rattle.wexchange.proofs.OneJudgement.{one_judgement}
use Rattle.wstream.specs.Messages.{message_text}
use Rattle.wbatch.specs.Streams.{IsDelivered}
use Rattle.wask.proofs.OneAnswer.{one_answer}
use Rattle.wplanner.specs.declared.fault.AskFault.{AskFault}
use Rattle.wreplies.specs.Spelling.{file_text, name_text, segment_text}
use Rattle.wreplies.specs.Texts.{bytes_of}
use Rattle.wstore.specs.Replies.{fed_text}
use Rattle.wstore.proofs.OneReading.{no_fault}
use Rattle.wstore.proofs.OneReply.{one_name}
use Rattle.wcommand.specs.declared.choice.Choice.{Choice}
use Rattle.wcommand.specs.declared.choice.Choice.TheVariants as choices
use Rattle.wcommand.specs.declared.choice.Paths.{Paths}
use Rattle.wact.specs.declared.acted.Acted.{Acted}
use Rattle.wact.specs.Acts.{ActsBy, ActsOn, ActsRead, Done, HasFault, Joined, Joins, Knows, NameRefused, Named, OnName, OtherRefused}
use Rattle.wact.specs.Acts.{SegmentRefused, StoreRefused, Taken, Takes}
use Rattle.wact.specs.Laws.{ActAlike, StoresActAlike, kept_or_new, placed, store_after}
use Rattle.wact.specs.Outcomes.{Becomes, IsRefused, IsStored}
use Rattle.wact.specs.Queries.{AreAnswers, Asks, replies_text}
use Rattle.wact.specs.Streams.{Feeds, delivered_view, lines_text}
use Rattle.wact.specs.Streams as streams
use Rattle.wact.proofs.OneStream.{All, Bad, Behind, Cut, Faulty, Nothing, OfSegment, OfStream, Told, one_stream, told}

-- ---- how two subcommands end

after : (old : Option (List ℕ)) (bytes : List ℕ) (new : Option (List ℕ)) → Becomes old bytes new → kept_or_new old new ≡ Some bytes
after old bytes None is = is
after old bytes (Some new) is = ap (λ x. Some x) is.0

stored : (d : Declaration) (v : View) (s t : Option (List ℕ)) (a b : Acted) (text : List ℕ) → IsStored d v s a text
    → IsStored d v t b text → ActAlike s t a b
stored d v s t a b text x y = record {
  text = x.0 ∙ sym y.0;
  status = x.1 ∙ sym y.1;
  stores = inl (after s _ (option_map (λ store. store.items) a.store) x.2 ∙ sym (after t _ (option_map (λ store. store.items) b.store) y.2));
}

unchanged : (old : Option (List ℕ)) (acted : Acted) → acted.store ≡ None → store_after old acted ≡ old
unchanged old acted is = ap (λ new. kept_or_new old (option_map (λ store. store.items) new)) is

-- a text is printed with this status, and nothing is stored
abbrev IsTold : Acted → List ℕ → ℕ → Type 0
IsTold acted text status = (bytes_of acted.output ≡ text) × (acted.status ≡ status) × (acted.store ≡ None)

told_same : (s t : Option (List ℕ)) (a b : Acted) (f g : List ℕ) (m n : ℕ) → IsTold a f m → IsTold b g n → f ≡ g → m ≡ n → ActAlike s t a b
told_same s t a b f g m n x y e k = record {
  text = x.0 ∙ e ∙ sym y.0;
  status = x.1 ∙ k ∙ sym y.1;
  stores = inr (unchanged s a x.2, unchanged t b y.2);
}

-- ---- what is judged is judged in one way

one_declaration : (d e : Declaration) (table : List ℕ) → ReadsDeclaration table (Ok d) → ReadsDeclaration table (Ok e) → d ≡ e
one_declaration d e table is also =
    spells-one d e table (subst (Spells d) (sym is.1) is.0.spelled) (subst (Spells e) (sym also.1) also.0.spelled)

by_declared : (d : Declaration) (table : List ℕ) (r : Result Declaration SchemaFault) (choice : Choice) (store : Option (List ℕ))
    (other : List ℕ) (acted : Acted) → ReadsDeclaration table (Ok d) → ReadsDeclaration table r → ActsRead r choice store other acted
    → ActsBy d choice store other acted
by_declared d table (Ok e) choice store other acted is also acts =
    subst (λ x. ActsBy x choice store other acted) (sym (one_declaration d e table is also)) acts
by_declared d table (Err fault) choice store other acted is also acts = absurd (no_fault table d fault is acts.0 also)

ok_values : {A E : Type 0} (x y : A) → ◌≡◌ {A = Result A E} (Ok x) (Ok y) → x ≡ y
ok_values x y e = cc

err_values : {A E : Type 0} (x y : E) → ◌≡◌ {A = Result A E} (Err x) (Err y) → x ≡ y
err_values x y e = cc

ok_or_err : {A E : Type 0} (x : A) (y : E) → ◌≡◌ {A = Result A E} (Ok x) (Err y) → ⊥
ok_or_err x y e = cc

one_file : (d : Declaration) (bytes : List ℕ) (v w : View) → IsDeclaration d → IsFileOf d v bytes → IsFileOf d w bytes → v ≡ w
one_file d bytes v w declared is also =
    ok_values v w (one_judgement d bytes (Ok v) (Ok w) declared is also (ok_or_err v files.NoMemory) (ok_or_err w files.NoMemory))

one_fault : (d : Declaration) (bytes : List ℕ) (f g : FileFault) → IsDeclaration d → f ≢ files.NoMemory → g ≢ files.NoMemory
    → judging.IsFault d bytes f → judging.IsFault d bytes g → f ≡ g
one_fault d bytes f g declared some also is has =
    err_values {A = View} f g (one_judgement d bytes (Err f) (Err g) declared is has (λ e. some (err_values {A = View} f files.NoMemory e))
    (λ e. also (err_values {A = View} g files.NoMemory e)))

no_file_fault : (d : Declaration) (bytes : List ℕ) (v : View) (fault : FileFault) → IsDeclaration d → IsFileOf d v bytes
    → fault ≢ files.NoMemory → judging.IsFault d bytes fault → ⊥
no_file_fault d bytes v fault declared is some has =
    ok_or_err v fault (one_judgement d bytes (Ok v) (Err fault) declared is has (ok_or_err v files.NoMemory)
    (λ e. some (err_values {A = View} fault files.NoMemory e)))

one_view : (d : Declaration) (store : Option (List ℕ)) (v w : View) → IsDeclaration d → Knows d store v → Knows d store w → v ≡ w
one_view d None v w declared is also = is ∙ sym also
one_view d (Some bytes) v w declared is also =
    is.is ∙ ap (join empty) (one_file d bytes is.in_file also.in_file declared is.file also.file) ∙ sym also.is

no_store_fault : (d : Declaration) (store : Option (List ℕ)) (v : View) (fault : FileFault) → IsDeclaration d → Knows d store v
    → fault ≢ files.NoMemory → HasFault d store fault → ⊥
no_store_fault d None v fault declared is some has = has
no_store_fault d (Some bytes) v fault declared is some has = no_file_fault d bytes is.in_file fault declared is.file some has

by_view : (d : Declaration) (choice : Choice) (store : Option (List ℕ)) (v : View) (other : List ℕ) (acted : Acted) → IsDeclaration d
    → Knows d store v → ActsBy d choice store other acted → ActsOn d v choice store other acted
by_view d choice store v other acted declared is (StoreRefused fault some has told) =
    absurd (no_store_fault d store v fault declared is some has)
by_view d choice store v other acted declared is (Done w knows does) =
    subst (λ x. ActsOn d x choice store other acted) (one_view d store w v declared knows is) does

-- ---- each subcommand

on_name : (s t : Option (List ℕ)) (origin number : List ℕ) (a b : Acted) (P Q : NameParts → Type 0)
    → ((name : NameParts) → P name → Q name → ActAlike s t a b) → OnName origin number a P → OnName origin number b Q → ActAlike s t a b
on_name s t origin number a b P Q alike (NameRefused f reads is) (NameRefused g also has) =
    told_same s t a b (name_text f) (name_text g) 1 1 is has
    (ap name_text (err_values {A = NameParts} f g (one_name origin number (Err f) (Err g) reads also))) refl
on_name s t origin number a b P Q alike (NameRefused f reads is) (Named name also does) =
    absurd (ok_or_err name f (one_name origin number (Ok name) (Err f) also reads))
on_name s t origin number a b P Q alike (Named name reads does) (NameRefused f also is) =
    absurd (ok_or_err name f (one_name origin number (Ok name) (Err f) reads also))
on_name s t origin number a b P Q alike (Named name reads does) (Named other also has) =
    alike name does (subst Q (sym (ok_values {E = NameFault} name other (one_name origin number (Ok name) (Ok other) reads also))) has)

one_segment_fault : {A : Type 0} (r : Result A SegmentFault) (f g : SegmentFault) → r ≡ Err f → r ≡ Err g → f ≡ g
one_segment_fault r f g is also = cc

takes : (d : Declaration) (v : View) (s t : Option (List ℕ)) (csv : List ℕ) (a b : Acted) (name : NameParts) → Takes d v s csv a name
    → Takes d v t csv b name → ActAlike s t a b
takes d v s t csv a b name (SegmentRefused f is told) (SegmentRefused g also has) =
    told_same s t a b (segment_text f) (segment_text g) 1 1 told has (ap segment_text (one_segment_fault (rows_of d csv) f g is also)) refl
takes d v s t csv a b name (SegmentRefused f is told) (Taken ok done) = absurd (true≢false (sym ok ∙ ap is_ok is))
takes d v s t csv a b name (Taken ok done) (SegmentRefused f is told) = absurd (true≢false (sym ok ∙ ap is_ok is))
takes d v s t csv a b name (Taken ok done) (Taken also has) = stored d _ s t a b _ done has

joins : (d : Declaration) (v : View) (s t : Option (List ℕ)) (other : List ℕ) (a b : Acted) → IsDeclaration d → Joins d v s other a
    → Joins d v t other b → ActAlike s t a b
joins d v s t other a b declared (OtherRefused f some is told) (OtherRefused g also has said) =
    told_same s t a b (file_text f) (file_text g) 1 1 told said (ap file_text (one_fault d other f g declared some also is has)) refl
joins d v s t other a b declared (OtherRefused f some is told) (Joined w file done) =
    absurd (no_file_fault d other w f declared file some is)
joins d v s t other a b declared (Joined w file done) (OtherRefused f some is told) =
    absurd (no_file_fault d other w f declared file some is)
joins d v s t other a b declared (Joined w file done) (Joined x also has) =
    stored d (join v w) s t a b _ done (subst (λ y. IsStored d (join v y) t b (codes "ok\n")) (one_file d other x w declared also file) has)

one_reply : (d : Declaration) (v : View) (queries : List (List ℕ)) (xs ys : List (Result (List ℕ) AskFault)) → AreAnswers d v queries xs
    → AreAnswers d v queries ys → xs ≡ ys
one_reply d v [] [] [] x y = refl
one_reply d v [] [] (z ∷ zs) x y = absurd y
one_reply d v [] (z ∷ zs) ys x y = absurd x
one_reply d v (query ∷ queries) [] ys x y = absurd x
one_reply d v (query ∷ queries) (z ∷ zs) [] x y = absurd y
one_reply d v (query ∷ queries) (z ∷ zs) (w ∷ ws) x y =
    rw (one_answer d v query z w x.0 y.0, one_reply d v queries zs ws x.1 y.1) refl

asks : (d : Declaration) (v : View) (s t : Option (List ℕ)) (queries : List (List ℕ)) (a b : Acted) → Asks d v queries a
    → Asks d v queries b → ActAlike s t a b
asks d v s t queries a b x y =
    let one = one_reply d v queries x.answers y.answers x.are y.are in
    told_same s t a b _ _ _ _ x.replied y.replied (ap replies_text one) (ap (λ l. if list_any is_err l then 1 else 0) one)

-- what feeding a stream is told that comes to this
abbrev IsFed : Declaration → View → Option (List ℕ) → Acted → List Item → Told → Type 0
IsFed d v old acted items All = IsStored d (delivered_view v items) old acted (lines_text v items ++ fed_text (length items) false)
IsFed d v old acted items (OfSegment fault) = IsRefused acted (segment_text fault)
IsFed d v old acted items OfStream = IsRefused acted (codes "refused B1\n")

record Fed (d : Declaration) (v : View) (old : Option (List ℕ)) (stream : List ℕ) (acted : Acted) : Type 0 where
  items : List Item
  rest : List ℕ
  each : AllByRecursion (IsDelivered d) items
  stream_is : stream ≡ flat_map message_text items ++ rest
  behind : Behind d rest
  is : IsFed d v old acted items (told behind)

fed : (d : Declaration) (v : View) (old : Option (List ℕ)) (stream : List ℕ) (acted : Acted) → Feeds d v old stream acted
    → Fed d v old stream acted
fed d v old stream acted (streams.SegmentRefused fault meets is) = record {
  items = meets.items;
  rest = message_text (SegmentItem meets.name meets.bytes) ++ meets.more;
  each = meets.each;
  stream_is = meets.stream_is;
  behind = Faulty meets.name meets.bytes meets.more fault meets.is refl meets.has_fault;
  is = is;
}
fed d v old stream acted (streams.BadRefused meets is) = record {
  items = meets.items;
  rest = meets.rest ++ meets.more;
  each = meets.each;
  stream_is = meets.stream_is;
  behind = Bad meets.rest meets.more meets.bad refl;
  is = is;
}
fed d v old stream acted (streams.CutRefused ends is) = record {
  items = ends.items;
  rest = ends.rest;
  each = ends.each;
  stream_is = ends.stream_is;
  behind = Cut ends.is_open ends.some;
  is = is;
}
fed d v old stream acted (streams.Fed items each whole is) = record {
  items = items;
  rest = [];
  each = each;
  stream_is = whole ∙ sym (append-nil (flat_map message_text items));
  behind = Nothing refl;
  is = is;
}

fed_alike : (d : Declaration) (v : View) (s t : Option (List ℕ)) (a b : Acted) (items : List Item) (w : Told) → IsFed d v s a items w
    → IsFed d v t b items w → ActAlike s t a b
fed_alike d v s t a b items All x y = stored d _ s t a b _ x y
fed_alike d v s t a b items (OfSegment fault) x y = told_same s t a b _ _ 1 1 x y refl refl
fed_alike d v s t a b items OfStream x y = told_same s t a b _ _ 1 1 x y refl refl

feeds : (d : Declaration) (v : View) (s t : Option (List ℕ)) (stream : List ℕ) (a b : Acted) → Fed d v s stream a → Fed d v t stream b
    → ActAlike s t a b
feeds d v s t stream a b x y =
    let one = one_stream d x.items y.items x.rest y.rest x.each y.each (sym x.stream_is ∙ y.stream_is) x.behind y.behind in
    fed_alike d v s t a b x.items (told x.behind) x.is (subst (λ w. IsFed d v t b x.items w) (sym one.1)
    (subst (λ l. IsFed d v t b l (told y.behind)) (sym one.0) y.is))

acts_on : (choice : Choice) (p q : Paths) (d : Declaration) (v : View) (s t : Option (List ℕ)) (other : List ℕ) (a b : Acted)
    → IsDeclaration d → ActsOn d v (placed p choice) s other a → ActsOn d v (placed q choice) t other b → ActAlike s t a b
acts_on choices.Session p q d v s t other a b declared x y = absurd x
acts_on (choices.Take own origin number csv) p q d v s t other a b declared x y =
    on_name s t origin.now number.now a b _ _ (takes d v s t other a b) x y
acts_on (choices.Retire own origin number) p q d v s t other a b declared x y =
    on_name s t origin.now number.now a b _ _ (λ name done has. stored d _ s t a b _ done has) x y
acts_on (choices.Floor own origin number) p q d v s t other a b declared x y =
    on_name s t origin.now number.now a b _ _ (λ name done has. stored d _ s t a b _ done has) x y
acts_on (choices.Join own path) p q d v s t other a b declared x y = joins d v s t other a b declared x y
acts_on (choices.Feed own path) p q d v s t other a b declared x y =
    feeds d v s t other a b (fed d v s other a x) (fed d v t other b y)
acts_on (choices.List own) p q d v s t other a b declared x y = told_same s t a b _ _ 0 0 x y refl refl
acts_on (choices.Ask own queries) p q d v s t other a b declared x y = asks d v s t _ a b x y
acts_on (choices.Shell own) p q d v s t other a b declared x y = absurd x

pub act_alike : StoresActAlike
act_alike choice p q d v table other s t a b reads one also x y =
    acts_on choice p q d v s t other a b reads.0
    (by_view d (placed p choice) s v other a reads.0 one (by_declared d table x.declared (placed p choice) s other a reads x.reads x.acts))
    (by_view d (placed q choice) t v other b reads.0 also (by_declared d table y.declared (placed q choice) t other b reads y.reads y.acts))
