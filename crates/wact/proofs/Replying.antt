-- Queries that are answered one after the other.
use Rattle.std.proofs.Common.{◌≡◌, ◌∙◌, ◌||◌, ℕ, ◌+◌, ◌<◌, Bor, get_or, map, take, subst, Bool, true, false, suc, arith, List}
use Rattle.std.proofs.Common.{[], ◌∷◌, ◌++◌, length, Result, cond, refl, sym, ap, append_assoc, append-nil}
use Rattle.std.specs.Prelude.{is_err}
use Rattle.std.specs.List.{flat_map, list_any}
use Rattle.std.proofs.lemmas.List.Folds.{list_any-append}
use Rattle.std.proofs.lemmas.Grind.{flat_map-append}
use Rattle.std.proofs.lemmas.List.{map-append}
use Rattle.std.proofs.Math.Seq.{take-suc}
use Rattle.wsegment.specs.Declaration.{Declaration}
use Rattle.wset.specs.Views.{View}
use Rattle.wask.specs.Answer.{IsAnswer}
use Rattle.wplanner.specs.declared.fault.AskFault.{AskFault}
use Rattle.wact.specs.declared.acted.Acted.{Acted}
use Rattle.wact.specs.Outcomes.{IsReplied}
use Rattle.wact.specs.Queries.{AreAnswers, Asks, IsReply, RepliesFollow, ReplyFollows, next_reply_text}

are_both : (d : Declaration) (v : View) (query : List ℕ) (answer : Result (List ℕ) AskFault) (queries : List (List ℕ))
    (answers : List (Result (List ℕ) AskFault)) → AreAnswers d v queries answers → IsAnswer d v query answer
    → AreAnswers d v (queries ++ query ∷ []) (answers ++ answer ∷ [])
are_both d v query answer [] [] are is = (is, tt)
are_both d v query answer [] (a ∷ more) are is = absurd are
are_both d v query answer (q ∷ qs) [] are is = absurd are
are_both d v query answer (q ∷ qs) (a ∷ more) are is = (are.0, are_both d v query answer qs more are.1 is)

or_false : (b : Bool) → b ≡ (b || false)
or_false true = refl
or_false false = refl

or_or : (a b c : Bool) → ((a || b) || c) ≡ (a || (b || c))
or_or true b c = refl
or_or false b c = refl

pub no_replies : (d : Declaration) (v : View) (text : List ℕ) (is_refused : Bool) → RepliesFollow d v [] text text is_refused is_refused
no_replies d v text is_refused = record { answers = []; are = tt; text_is = sym (append-nil text); refused_is = or_false is_refused }

pub more_replies : (d : Declaration) (v : View) (queries : List (List ℕ)) (query a b c : List ℕ) (p q r : Bool)
    → RepliesFollow d v queries a b p q → ReplyFollows d v query b c q r → RepliesFollow d v (queries ++ query ∷ []) a c p r
more_replies d v queries query a b c p q r first last = record {
  answers = first.answers ++ last.answer ∷ [];
  are = are_both d v query last.answer queries first.answers first.are last.answers;
  text_is =
      last.text_is
      ∙ ap (λ t. t ++ next_reply_text last.answer) first.text_is
      ∙ append_assoc a (flat_map next_reply_text first.answers) (next_reply_text last.answer)
      ∙ ap (λ t. a ++ t) (
      ap (λ t. flat_map next_reply_text first.answers ++ t) (sym (append-nil (next_reply_text last.answer)))
      ∙ sym (flat_map-append next_reply_text first.answers (last.answer ∷ [])));
  refused_is =
      last.refused_is
      ∙ ap (λ t. t || is_err last.answer) first.refused_is
      ∙ or_or p (list_any is_err first.answers) (is_err last.answer)
      ∙ ap (λ t. p || t) (
      ap (λ t. list_any is_err first.answers || t) (or_false (is_err last.answer))
      ∙ sym (list_any-append is_err first.answers (last.answer ∷ [])));
}

-- the next of the queries
pub loop_replies : (d : Declaration) (v : View) (queries : List (Bor (List ℕ))) (i : ℕ) (other : Bor (List ℕ))
    (a b c : List ℕ) (p q r : Bool) → i < length queries
    → RepliesFollow d v (map (λ query. query.now) (take i queries)) a b p q
    → ReplyFollows d v (get_or queries i other).now b c q r
    → RepliesFollow d v (map (λ query. query.now) (take (i + 1) queries)) a c p r
loop_replies d v queries i other a b c p q r more first last =
    let next : i + 1 ≡ suc i = omega arith in
    let texts : map (λ query. query.now) (take i queries) ++ (get_or queries i other).now ∷ [] ≡ map (λ query. query.now)
    (take (i + 1) queries) =
    sym (map-append (λ (query : Bor (List ℕ)). query.now) (take i queries) (get_or queries i other ∷ []))
    ∙ ap (map (λ (query : Bor (List ℕ)). query.now)) (sym (take-suc queries i other more) ∙ ap (λ n. take n queries) (sym next)) in
    subst (λ qs. RepliesFollow d v qs a c p r) texts (more_replies d v (map (λ query. query.now) (take i queries))
    (get_or queries i other).now a b c p q r first last)

-- no query is told nothing
pub asks_none : (d : Declaration) (v : View) (queries : List (List ℕ)) (acted : Acted) → queries ≡ []
    → IsReplied acted [] false → Asks d v queries acted
asks_none d v [] acted e replied = record { answers = []; are = tt; replied = replied }
asks_none d v (q ∷ qs) acted e replied = let bad : suc (length qs) ≡ 0 = ap length e in absurd (omega arith)

-- the first query, and those behind it
pub asks_all : (d : Declaration) (v : View) (query : List ℕ) (queries : List (List ℕ)) (acted : Acted) (first text : List ℕ)
    (p q : Bool) → IsReply d v query first p → RepliesFollow d v queries first text p q → IsReplied acted text q
    → Asks d v (query ∷ queries) acted
asks_all d v query queries acted first text p q one others replied = record {
  answers = one.answer ∷ others.answers;
  are = (one.answers, others.are);
  replied = (
    replied.0 ∙ others.text_is ∙ ap (λ t. t ++ flat_map next_reply_text others.answers) one.text_is,
    replied.1 ∙ ap (λ (b : Bool). cond {A = ℕ} b 1 0) (others.refused_is ∙ ap (λ b. b || list_any is_err others.answers) one.refused_is),
    replied.2,
  );
}

-- one query more, behind an empty line
pub reply_follows : (d : Declaration) (v : View) (query old mid new text : List ℕ) (p r s : Bool) → IsReply d v query text r
    → mid ≡ old ++ 10 ∷ [] → new ≡ mid ++ text → s ≡ (p || r) → ReplyFollows d v query old new p s
reply_follows d v query old mid new text p r s told line rest refused = record {
  answer = told.answer;
  answers = told.answers;
  text_is = rest ∙ ap (λ t. t ++ text) line ∙ append_assoc old (10 ∷ []) text ∙ ap (λ t. old ++ (10 ∷ t)) told.text_is;
  refused_is = refused ∙ ap (λ b. p || b) told.refused_is;
}
