use Rattle.std.proofs.Common.{inl, inr, rules}
use Rattle.csv.specs.Reading.{strip_bom}
use Rattle.wsegment.proofs.records.reader_of.Goals as goal

pub returns-in-Ok-clause-reading : goal.returns-in-Ok-clause-reading
returns-in-Ok-clause-reading c = record {
  plain = search rules;
  ready = inr (inl (search rules, search rules));
  config = search rules;
  flexible = search rules;
  between = search rules;
  bytes = strip_bom c.args.bytes.now;
  source = search rules;
}
