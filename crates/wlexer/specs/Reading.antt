-- What the reader answers.
use Rattle.std.specs.Prelude.{◌≡◌, ℕ, ◌≤◌, List, [], ◌∷◌}
use Rattle.wlexer.specs.declared.fault.LexFault.{LexFault}
use Rattle.wlexer.specs.declared.fault.LexFault.TheVariants as faults
use Rattle.wlexer.specs.declared.fault.Miss.{Miss}
use Rattle.wlexer.specs.declared.fault.Miss.TheVariants as misses
use Rattle.wlexer.specs.Bytes.{ascii_limit}
use Rattle.wlexer.specs.Lexing.{HasFaultAt}
use Rattle.wlexer.specs.Spelling.{IsStuck, Quoted}

-- nothing is quoted here
abbrev pub IsOpen : ℕ → List ℕ → Type 0
IsOpen quote text = (body rest : List ℕ) → Quoted quote text body rest → ⊥

-- the fact, unless memory ran out
abbrev pub Misses : Miss → Type 0 → Type 0
Misses misses.Nothing P = P
Misses misses.NoMemory P = Unit {0}

-- no ASCII byte stands at the front
abbrev pub BeginsBeyondAscii : List ℕ → Type 0
BeginsBeyondAscii [] = Unit {0}
BeginsBeyondAscii (b ∷ rest) = ascii_limit ≤ b

-- a fault that is met at this place: no token begins here
abbrev pub FaultsHere : ℕ → List ℕ → LexFault → Type 0
FaultsHere place text (faults.At from) = (from ≡ place) × IsStuck text
FaultsHere place text faults.NoMemory = Unit {0}
FaultsHere place text _ = ⊥

-- a fault that reading the tokens can meet
abbrev pub IsLexicalFault : List ℕ → LexFault → Type 0
IsLexicalFault text (faults.At place) = HasFaultAt text place
IsLexicalFault text faults.NoMemory = Unit {0}
IsLexicalFault text _ = ⊥
