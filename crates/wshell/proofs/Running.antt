-- An input that is read and answered.
use Rattle.std.proofs.Common.{◌≡◌, ◌⊎◌, inl, inr, ◌∙◌, ℕ, suc, ◌+◌, ◌<◌, false, List, [], ◌∷◌, ◌++◌, take}
use Rattle.std.proofs.Common.{drop, take-append-drop, get_or, length, Option, Some, None, IfSome, Result, Ok}
use Rattle.std.proofs.Common.{Err, IfErr, OnOk, refl, sym, ap, subst, arith, append_assoc, append-nil}
use Rattle.std.specs.List.{flat_map}
use Rattle.std.specs.Io.KnownBytes.{Appends, Consumes, IsAtEnd, Keeps}
use Rattle.std.proofs.KnownBytes.{Appends-nil, Consumes-kept, Consumes-nil, Consumes-trans}
use Rattle.std.proofs.lemmas.List.{take_all}
use Rattle.std.proofs.Math.Seq.{take-suc}
use Rattle.wsegment.specs.Declaration.{Declaration}
use Rattle.wset.specs.Views.{View}
use Rattle.wstore.specs.Nodes.{NodeState}
use Rattle.wact.specs.Queries.{replies_text}
use Rattle.wshell.specs.declared.replying.Replied.{Replied}
use Rattle.wshell.specs.Splitting.{EndsAt, Splits, ended, may_end}
use Rattle.wshell.specs.Pending.{IsPending, Kept}
use Rattle.wshell.specs.declared.fault.ShellFault.{ShellFault}
use Rattle.wshell.specs.Replying.{RepliesOne, RepliesPart}
use Rattle.wshell.specs.Runs.{All, First, FrontSoFar, GivesUp, GoesOn, IsBegun, KeepsUp, Replies}
use Rattle.wshell.specs.Runs.{RepliesBegun, SoFar, StandsAfter, StandsBehind, TakesFront}
use Rattle.wshell.proofs.Splitting.{splits_add, splits_end, splits_nothing}
use Rattle.wshell.proofs.Answering.{nothing_replied, one_more, one_part}

pub stands_first : (d : Declaration) (v : View) (first : Option (List ℕ)) (pending : Kept) (replied : Replied)
    → IsPending pending [] → replied.is_any ≡ false → replied.is_refused ≡ false → StandsBehind d v first [] first pending replied
stands_first d v first pending replied is any refused = record {
  queries = [];
  rest = [];
  splits = splits_nothing;
  is = is;
  so_far = nothing_replied d v first replied (Appends-nil first) any refused;
}

-- all of the replies so far
pub whole_front : (d : Declaration) (v : View) (texts : List (List ℕ)) (first contents : Option (List ℕ)) (replied : Replied)
    (fault : ShellFault) → SoFar d v texts first contents replied → FrontSoFar d v texts first contents fault
whole_front d v texts first contents replied fault s = record {
  answers = s.answers;
  n = length (replies_text s.answers);
  are = s.are;
  appends = subst (Appends first contents) (sym all) s.appends;
  whole = λ other. all;
}
  where
    all : take (length (replies_text s.answers)) (replies_text s.answers) ≡ replies_text s.answers
    all = take_all (length (replies_text s.answers)) (replies_text s.answers) (omega arith)

module _ (d : Declaration) (v : View) (first : Option (List ℕ)) (input : List ℕ) (contents : Option (List ℕ))
    (pending : Kept) (replied : Replied) (stands : StandsBehind d v first input contents pending replied) where
  -- a byte that belongs to the query
  pub stands_more : (b : ℕ) (new_pending : Kept) → ¬ (EndsAt pending.mode b) → ((text : List ℕ) → IsPending pending text
      → IsPending new_pending (text ++ b ∷ []))
      → StandsBehind d v first (input ++ b ∷ []) contents new_pending replied
  stands_more b new_pending other adds = record {
    queries = stands.queries;
    rest = stands.rest ++ b ∷ [];
    splits = splits_add input stands.queries stands.rest b stands.splits (λ e may. other (e, ap may_end stands.is.mode_is ∙ may));
    is = adds stands.rest stands.is;
    so_far = stands.so_far;
  }

  module _ (b : ℕ) (end : EndsAt pending.mode b) where
    ends : Splits (input ++ b ∷ []) (stands.queries ++ stands.rest ∷ []) []
    ends = splits_end input stands.queries stands.rest b stands.splits end.0 (sym (ap may_end stands.is.mode_is) ∙ end.1)

    -- the byte that ends the query, to which this is the reply
    pub stands_replied : (new : Option (List ℕ)) (new_pending : Kept) (new_replied : Replied)
        → RepliesOne d v pending.text contents new replied new_replied → IsPending new_pending []
        → StandsBehind d v first (input ++ b ∷ []) new new_pending new_replied
    stands_replied new new_pending new_replied t empty = record {
      queries = stands.queries ++ stands.rest ∷ [];
      rest = [];
      splits = ends;
      is = empty;
      so_far = one_more d v stands.queries stands.rest first contents new replied stands.so_far new_replied
          (subst (λ k. RepliesOne d v k contents new replied new_replied) stands.is.text_is t);
    }

    pub begun_replied : (new : Option (List ℕ)) (fault : ShellFault) → RepliesPart d v pending.text contents new replied fault
        → IsBegun d v first (input ++ b ∷ []) new fault
    begun_replied new fault t = by (one_part d v stands.queries stands.rest first contents new replied stands.so_far fault
        (subst (λ k. RepliesPart d v k contents new replied fault) stands.is.text_is t))
      where
        by : FrontSoFar d v stands.queries first new fault ⊎ FrontSoFar d v (stands.queries ++ stands.rest ∷ []) first new fault
            → IsBegun d v first (input ++ b ∷ []) new fault
        by (inl front) = record {
          queries = stands.queries;
          more = stands.rest ++ b ∷ [];
          whole = ap (λ l. l ++ b ∷ []) stands.splits.whole ∙ append_assoc (flat_map ended stands.queries) stands.rest (b ∷ []);
          each = stands.splits.each;
          front = front;
        }
        by (inr front) = record {
          queries = stands.queries ++ stands.rest ∷ [];
          more = [];
          whole = ends.whole;
          each = ends.each;
          front = front;
        }

  -- the replies so far
  pub begun_so_far : (fault : ShellFault) → IsBegun d v first input contents fault
  begun_so_far fault = record {
    queries = stands.queries;
    more = stands.rest;
    whole = stands.splits.whole;
    each = stands.splits.each;
    front = whole_front d v stands.queries first contents replied fault stands.so_far;
  }

  -- the end of the input
  pub replies_all : (new : Option (List ℕ)) (new_replied : Replied) → RepliesOne d v pending.text contents new replied new_replied
      → (written : List ℕ) × Appends first new written × Replies d v input written new_replied.is_refused
  replies_all new new_replied t =
      let last = one_more d v stands.queries stands.rest first contents new replied stands.so_far new_replied
      (subst (λ k. RepliesOne d v k contents new replied new_replied) stands.is.text_is t) in (
        replies_text last.answers,
        last.appends,
        record {
          queries = stands.queries;
          rest = stands.rest;
          answers = last.answers;
          splits = stands.splits;
          are = last.are;
          output_is = refl;
          refused_is = last.refused_is;
        },
      )

  pub replies_part : (new : Option (List ℕ)) (fault : ShellFault) → RepliesPart d v pending.text contents new replied fault
      → (written : List ℕ) × Appends first new written × RepliesBegun d v fault input written
  replies_part new fault t = by (one_part d v stands.queries stands.rest first contents new replied stands.so_far fault
      (subst (λ k. RepliesPart d v k contents new replied fault) stands.is.text_is t))
    where
      by : FrontSoFar d v stands.queries first new fault ⊎ FrontSoFar d v (stands.queries ++ stands.rest ∷ []) first new fault
          → (written : List ℕ) × Appends first new written × RepliesBegun d v fault input written
      by (inl front) = (
        take front.n (replies_text front.answers),
        front.appends,
        record {
          texts = stands.queries;
          answers = front.answers;
          n = front.n;
          begins = First stands.queries stands.rest stands.splits.whole stands.splits.each;
          are = front.are;
          output_is = refl;
          whole = front.whole;
        },
      )
      by (inr front) = (
        take front.n (replies_text front.answers),
        front.appends,
        record {
          texts = stands.queries ++ stands.rest ∷ [];
          answers = front.answers;
          n = front.n;
          begins = All stands.queries stands.rest stands.splits;
          are = front.are;
          output_is = refl;
          whole = front.whole;
        },
      )

-- more of the input behind it
pub begun_more : (d : Declaration) (v : View) (first : Option (List ℕ)) (input more : List ℕ) (contents : Option (List ℕ))
    (fault : ShellFault) → IsBegun d v first input contents fault → IsBegun d v first (input ++ more) contents fault
begun_more d v first input more contents fault begun = record {
  queries = begun.queries;
  more = begun.more ++ more;
  whole = ap (λ l. l ++ more) begun.whole ∙ append_assoc (flat_map ended begun.queries) begun.more more;
  each = begun.each;
  front = begun.front;
}

-- ---- bytes more

taken_more : (block : List ℕ) (i b other : ℕ) → i < length block → b ≡ get_or block i other → take i block ++ b ∷ [] ≡ take (i + 1) block
taken_more block i b other more is =
    let next : i + 1 ≡ suc i = omega arith in
    ap (λ x. take i block ++ x ∷ []) is ∙ sym (take-suc block i other more) ∙ ap (λ n. take n block) (sym next)

module _ (d : Declaration) (v : View) where
  -- a query that has ended
  pub goes_on_replied : {A : Type 0} (r : Result A ShellFault) (b : ℕ) (old new : Option (List ℕ)) (pending new_pending : Kept)
      (replied new_replied : Replied) → EndsAt pending.mode b → OnOk r (RepliesOne d v pending.text old new replied new_replied)
      → OnOk r (IsPending new_pending []) → OnOk r (GoesOn d v (b ∷ []) old new pending new_pending replied new_replied)
  goes_on_replied (Ok x) b old new pending new_pending replied new_replied end t empty =
      λ first input stands. stands_replied d v first input old pending replied stands b end new new_pending new_replied t empty
  goes_on_replied (Err e) b old new pending new_pending replied new_replied end t empty = tt

  pub gives_up_replied : {A : Type 0} (r : Result A ShellFault) (b : ℕ) (old new : Option (List ℕ)) (pending : Kept)
      (replied : Replied) → EndsAt pending.mode b → IfErr r (RepliesPart d v pending.text old new replied)
      → IfErr r (GivesUp d v (b ∷ []) old new pending replied)
  gives_up_replied (Ok x) b old new pending replied end t = tt
  gives_up_replied (Err e) b old new pending replied end t =
      λ first input stands. begun_replied d v first input old pending replied stands b end new e t

  -- a byte that belongs to the query
  pub goes_on_more : (b : ℕ) (old : Option (List ℕ)) (pending new_pending : Kept) (replied : Replied) → ¬ (EndsAt pending.mode b)
      → ((text : List ℕ) → IsPending pending text → IsPending new_pending (text ++ b ∷ []))
      → GoesOn d v (b ∷ []) old old pending new_pending replied replied
  goes_on_more b old pending new_pending replied other adds = λ first input stands. stands_more d v first input old pending
      replied stands b new_pending other adds

  -- no byte
  pub goes_on_nothing : (old : Option (List ℕ)) (pending : Kept) (replied : Replied) → GoesOn d v [] old old pending pending replied replied
  goes_on_nothing old pending replied = λ first input stands. subst (λ i. StandsBehind d v first i old pending replied)
      (sym (append-nil input)) stands

  -- a block behind a block
  pub goes_on_trans : (xs ys : List ℕ) (a b c : Option (List ℕ)) (p q r : Kept) (k l m : Replied) → GoesOn d v xs a b p q k l
      → GoesOn d v ys b c q r l m → GoesOn d v (xs ++ ys) a c p r k m
  goes_on_trans xs ys a b c p q r k l m one two = λ first input stands.
      subst (λ i. StandsBehind d v first i c r m) (append_assoc input xs ys) (two first (input ++ xs) (one first input stands))

  pub gives_up_trans : (xs ys : List ℕ) (a b c : Option (List ℕ)) (p q : Kept) (k l : Replied) (fault : ShellFault)
      → GoesOn d v xs a b p q k l → GivesUp d v ys b c q l fault → GivesUp d v (xs ++ ys) a c p k fault
  gives_up_trans xs ys a b c p q k l fault one two = λ first input stands.
      subst (λ i. IsBegun d v first i c fault) (append_assoc input xs ys) (two first (input ++ xs) (one first input stands))

  pub gives_up_more : (xs ys : List ℕ) (a c : Option (List ℕ)) (p : Kept) (k : Replied) (fault : ShellFault)
      → GivesUp d v xs a c p k fault → GivesUp d v (xs ++ ys) a c p k fault
  gives_up_more xs ys a c p k fault one = λ first input stands.
      subst (λ i. IsBegun d v first i c fault) (append_assoc input xs ys)
      (begun_more d v first (input ++ xs) ys c fault (one first input stands))

  -- the next byte of a block
  pub next_byte : (block : List ℕ) (i b other : ℕ) (x y z : Option (List ℕ)) (p q r : Kept) (k l m : Replied)
      → i < length block → b ≡ get_or block i other → GoesOn d v (take i block) x y p q k l → GoesOn d v (b ∷ []) y z q r l m
      → GoesOn d v (take (i + 1) block) x z p r k m
  next_byte block i b other x y z p q r k l m more is one two =
      subst (λ bs. GoesOn d v bs x z p r k m) (taken_more block i b other more is) (goes_on_trans (take i block) (b ∷ []) x
      y z p q r k l m one two)

  pub last_byte : (block : List ℕ) (i b other : ℕ) (x y z : Option (List ℕ)) (p q : Kept) (k l : Replied) (fault : ShellFault)
      → i < length block → b ≡ get_or block i other → GoesOn d v (take i block) x y p q k l
      → GivesUp d v (b ∷ []) y z q l fault → GivesUp d v block x z p k fault
  last_byte block i b other x y z p q k l fault more is one two =
      subst (λ bs. GivesUp d v bs x z p k fault)
      (ap (λ bs. bs ++ drop (i + 1) block) (taken_more block i b other more is) ∙ take-append-drop (i + 1) block)
      (gives_up_more (take i block ++ b ∷ []) (drop (i + 1) block) x z p k fault
      (gives_up_trans (take i block) (b ∷ []) x y z p q k l fault one two))

  -- ---- the input so far

  pub after_nothing : (left first : Option (List ℕ)) (pending : Kept) (replied : Replied)
      → StandsBehind d v first [] first pending replied → StandsAfter d v left left first first pending replied
  after_nothing left first pending replied stands = record { input = []; consumes = Consumes-nil left; stands = stands }

  pub after_kept : (left mid new first contents : Option (List ℕ)) (pending : Kept) (replied : Replied)
      → StandsAfter d v left mid first contents pending replied → Keeps mid new → StandsAfter d v left new first contents pending replied
  after_kept left mid new first contents pending replied s kept = record {
    input = s.input;
    consumes =
        Consumes-kept left mid new s.input s.consumes kept;
    stands = s.stands;
  }

  pub after_block : (block : List ℕ) (left mid new first old contents : Option (List ℕ)) (p q : Kept) (k l : Replied)
      → StandsAfter d v left mid first old p k → Consumes mid new block → GoesOn d v block old contents p q k l
      → StandsAfter d v left new first contents q l
  after_block block left mid new first old contents p q k l s eats on = record {
    input = s.input ++ block;
    consumes = Consumes-trans left mid new s.input block s.consumes eats;
    stands = on first s.input s.stands;
  }

  pub front_block : (block : List ℕ) (left mid new first old contents : Option (List ℕ)) (p : Kept) (k : Replied)
      (fault : ShellFault) → StandsAfter d v left mid first old p k → Consumes mid new block
      → GivesUp d v block old contents p k fault → TakesFront d v left first contents fault
  front_block block left mid new first old contents p k fault s eats up = record {
    input = s.input ++ block;
    new_left = new;
    consumes = Consumes-trans left mid new s.input block s.consumes eats;
    begun = up first s.input s.stands;
  }

  pub front_after : (left mid first contents : Option (List ℕ)) (pending : Kept) (replied : Replied) (fault : ShellFault)
      → StandsAfter d v left mid first contents pending replied → TakesFront d v left first contents fault
  front_after left mid first contents pending replied fault s = record {
    input = s.input;
    new_left = mid;
    consumes = s.consumes;
    begun = begun_so_far d v first s.input contents pending replied s.stands fault;
  }

  -- no reply waits
  pub keeps_up : (left mid first contents : Option (List ℕ)) (pending : Kept) (replied : Replied)
      → StandsAfter d v left mid first contents pending replied → KeepsUp d v left mid first contents
  keeps_up left mid first contents pending replied s = record {
    input = s.input;
    queries = s.stands.queries;
    rest = s.stands.rest;
    answers = s.stands.so_far.answers;
    consumes = s.consumes;
    splits = s.stands.splits;
    are = s.stands.so_far.are;
    written = s.stands.so_far.appends;
  }

-- ---- the bytes of the reader

-- a node that stayed as it was
module _ (node new_node : NodeState) (kept text : List ℕ) (old new : Option (List ℕ)) (replied : Replied) (same : new_node ≡ node)
    (is : text ≡ kept) where
  pub same_one : (new_replied : Replied) → RepliesOne new_node.schema new_node.view text old new replied new_replied
      → RepliesOne node.schema node.view kept old new replied new_replied
  same_one new_replied t = subst (λ (n : NodeState). RepliesOne n.schema n.view kept old new replied new_replied) same
      (subst (λ x. RepliesOne new_node.schema new_node.view x old new replied new_replied) is t)

  pub same_part : (fault : ShellFault) → RepliesPart new_node.schema new_node.view text old new replied fault
      → RepliesPart node.schema node.view kept old new replied fault
  same_part fault t = subst (λ (n : NodeState). RepliesPart n.schema n.view kept old new replied fault) same
      (subst (λ x. RepliesPart new_node.schema new_node.view x old new replied fault) is t)

at_end : (left new_left : Option (List ℕ)) (input : List ℕ) → Consumes left new_left input → IsAtEnd new_left
    → IfSome left (λ bytes. bytes ≡ input)
at_end None new_left input k e = tt
at_end (Some xs) None input k e = absurd k
at_end (Some xs) (Some ys) input k e = k ∙ ap (λ l. input ++ l) e ∙ append-nil input

if_some : (o : Option (List ℕ)) (P Q : List ℕ → Type 0) → IfSome o P → ((x : List ℕ) → P x → Q x) → IfSome o Q
if_some None P Q h f = tt
if_some (Some x) P Q h f = f x h

-- the whole input is answered
pub all_replied : (d : Declaration) (v : View) (left new_left first contents new : Option (List ℕ)) (pending : Kept)
    (replied new_replied : Replied) → StandsAfter d v left new_left first contents pending replied → IsAtEnd new_left
    → RepliesOne d v pending.text contents new replied new_replied
    → IfSome left (λ bytes. (written : List ℕ) × Appends first new written × Replies d v bytes written new_replied.is_refused)
all_replied d v left new_left first contents new pending replied new_replied takes end t =
    if_some left _ _ (at_end left new_left takes.input takes.consumes end) (λ bytes e.
    subst (λ (b : List ℕ). (written : List ℕ) × Appends first new written × Replies d v b written new_replied.is_refused)
    (sym e) (replies_all d v first takes.input contents pending replied takes.stands new new_replied t))

pub all_begun : (d : Declaration) (v : View) (left new_left first contents new : Option (List ℕ)) (pending : Kept)
    (replied : Replied) (fault : ShellFault) → StandsAfter d v left new_left first contents pending replied → IsAtEnd new_left
    → RepliesPart d v pending.text contents new replied fault
    → IfSome left (λ bytes. (written : List ℕ) × Appends first new written × RepliesBegun d v fault bytes written)
all_begun d v left new_left first contents new pending replied fault takes end t =
    if_some left _ _ (at_end left new_left takes.input takes.consumes end) (λ bytes e.
    subst (λ (b : List ℕ). (written : List ℕ) × Appends first new written × RepliesBegun d v fault b written) (sym e)
    (replies_part d v first takes.input contents pending replied takes.stands new fault t))

-- a front of the input
pub front_begun : (d : Declaration) (v : View) (left first contents : Option (List ℕ)) (fault : ShellFault)
    → TakesFront d v left first contents fault
    → IfSome left (λ bytes. (written : List ℕ) × Appends first contents written × RepliesBegun d v fault bytes written)
front_begun d v left first contents fault takes = by left takes.new_left takes.consumes
  where
    front : List ℕ
    front = take takes.begun.front.n (replies_text takes.begun.front.answers)

    by : (left new_left : Option (List ℕ)) → Consumes left new_left takes.input
        → IfSome left (λ bytes. (written : List ℕ) × Appends first contents written × RepliesBegun d v fault bytes written)
    by None new_left k = tt
    by (Some xs) None k = absurd k
    by (Some xs) (Some ys) k = (
      front,
      takes.begun.front.appends,
      record {
        texts = takes.begun.queries;
        answers = takes.begun.front.answers;
        n = takes.begun.front.n;
        begins = First takes.begun.queries (takes.begun.more ++ ys)
            (k ∙ ap (λ l. l ++ ys) takes.begun.whole ∙ append_assoc (flat_map ended takes.begun.queries) takes.begun.more ys)
            takes.begun.each;
        are = takes.begun.front.are;
        output_is = refl;
        whole = takes.begun.front.whole;
      },
    )

-- nothing was read and nothing written
pub nothing_begun : (d : Declaration) (v : View) (left first : Option (List ℕ)) (fault : ShellFault)
    → IfSome left (λ bytes. (written : List ℕ) × Appends first first written × RepliesBegun d v fault bytes written)
nothing_begun d v None first fault = tt
nothing_begun d v (Some xs) first fault = (
  [],
  Appends-nil first,
  record {
    texts = [];
    answers = [];
    n = 0;
    begins = First [] xs refl tt;
    are = tt;
    output_is = refl;
    whole = λ other. refl;
  },
)
