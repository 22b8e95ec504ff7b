use Rattle.std.proofs.Common.{◌≡◌, ◌<◌, ◌^◌, ◌*◌, ◌+◌, ◌-◌, fold, drop}
use Rattle.wlexer.specs.Spelling.{number_of}
use Rattle.wlexer.proofs.reading.number_of.Given as goal

abbrev pub invariant-digits : goal.invariant-digits
invariant-digits l = record {
  so_far : fold (λ number digit. number * 10 + (digit - 48)) l.number (drop l.digit-index l.digits) ≡ number_of l.digits;
  small : l.number < 2 ^ 95;
}
