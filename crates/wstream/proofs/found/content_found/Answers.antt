use Rattle.std.proofs.Common.{◌∙◌, ◌++◌, ◌∷◌, ap}
use Rattle.wrecords.specs.Forms.{line_of}
use Rattle.wrecords.specs.declared.form.Form.TheVariants as forms
use Rattle.wstream.proofs.Streams.{begins_content, bad_body, bad_form}
use Rattle.wstream.proofs.found.content_found.Goals as goal

pub returns-then-is_too_long : goal.returns-then-is_too_long
returns-then-is_too_long c =
    bad_form c.args.bytes.now c.args.rest.now (forms.Content c.args.name c.args.len) (c.requires.name, c.requires.number)
    c.requires.line (c.is_too_long.ensures.long c.if-is_too_long.true)

pub returns-in-Whole : goal.returns-in-Whole
returns-in-Whole c =
    begins_content c.args.bytes.now c.in-Whole.body.now c.in-Whole.behind.now c.args.name c.args.len c.requires.name
    (c.is_too_long.ensures.short c.if-is_too_long.false) c.in-Whole.ensures.1
    (c.requires.line ∙ ap (λ l. line_of (forms.Content c.args.name c.args.len) ++ (10 ∷ l)) c.in-Whole.ensures.0)

pub returns-in-Unfed : goal.returns-in-Unfed
returns-in-Unfed c = bad_body c.args.bytes.now c.args.rest.now c.args.name c.args.len c.requires.name
    (c.is_too_long.ensures.short c.if-is_too_long.false) c.requires.line c.in-Unfed.ensures
