use Rattle.std.proofs.Common.{◌∙◌, ◌++◌, ◌∷◌, inl, inr, ⊎_elim, ap, refl, sym, subst}
use Rattle.std.specs.FinMap.{entries}
use Rattle.wrecords.specs.Forms.{IsForm, line_of}
use Rattle.wexchange.specs.Files.{counted}
use Rattle.wexchange.specs.Judging.{AtDigest, IsFault}
use Rattle.wexchange.specs.declared.version.Version.TheVariants.{Two}
use Rattle.wexchange.proofs.Faults.{digest_goes_on, more_behind, no_place, other_digest}
use Rattle.wexchange.proofs.WholeReads.{err_then}
use Rattle.wexchange.proofs.reading.judge_digest.Goals as goal

pub returns-in_default-clause-fault : goal.returns-in_default-clause-fault
returns-in_default-clause-fault c = λ d v view e.
    inr (inl (record {
      place = AtDigest v;
      rest = c.args.after.now;
      goes_on =
          digest_goes_on d v (counted Two d (entries v)) c.args.after.now c.args.bytes.now view refl e;
      lacks = c.in_default.ensures.none;
    }))

pub returns-in_default-read_form-clause-fault : goal.returns-in_default-read_form-clause-fault
returns-in_default-read_form-clause-fault c = λ d v view e.
    let front = counted Two d (entries v) in
    inr (inl (record {
      place = AtDigest v;
      line = c.in-Some.line.now;
      after = c.in-Some.rest.now;
      lacks = c.in-Some.ensures.first;
      goes_on = digest_goes_on d v front (c.in-Some.line.now ++ (10 ∷ c.in-Some.rest.now)) c.args.bytes.now view refl
          (e ∙ ap (λ l. front ++ l) c.in-Some.ensures.found);
      none = λ f form may is. absurd (c.in_default-read_form.not-Some f (c.read_form.ensures.only f form is));
    }))

pub returns-in_default-digits_in-clause-fault : goal.returns-in_default-digits_in-clause-fault
returns-in_default-digits_in-clause-fault c = λ d v view e.
    let front = counted Two d (entries v) in
    let form = c.in-Some-read_form.ensures.found in
    no_place d (AtDigest v) c.in-Some-read_form.form c.args.bytes.now c.in-Some.rest.now form.0
    (c.in_default-digits_in.ensures.none v)
    (digest_goes_on d v front (line_of c.in-Some-read_form.form ++ (10 ∷ c.in-Some.rest.now)) c.args.bytes.now view refl
    (e ∙ ap (λ l. front ++ l) (c.in-Some.ensures.found ∙ ap (λ l. l ++ (10 ∷ c.in-Some.rest.now)) form.1)))

pub returns-clause-fault : goal.returns-clause-fault
returns-clause-fault c =
    let form = c.in-Some-read_form.ensures.found in
    let digits = c.in-Some-digits_in.ensures.found in
    let line = c.in-Some.ensures.found ∙ ap (λ l. l ++ (10 ∷ c.in-Some.rest.now)) (form.1 ∙ ap line_of digits) in
    err_then c.judge_digits.result _ _
    (λ fault h d v view e. ⊎_elim
    (λ x. subst (IsFault d c.args.bytes.now) (sym x.0) (other_digest d v (counted Two d (entries v)) c.in-Some-digits_in.digits
    c.in-Some.rest.now c.args.after.now c.args.bytes.now (subst IsForm digits form.0) line x.1 view refl e))
    (λ x. subst (IsFault d c.args.bytes.now) (sym x.0) (more_behind d v (counted Two d (entries v)) c.in-Some-digits_in.digits
    c.in-Some.rest.now c.args.after.now c.args.bytes.now line x.1 x.2 view refl e)) (h (counted Two d (entries v)) e))
    c.judge_digits.ensures.fault
