-- What each form of expression takes and gives: the one table from which its type and the rule on its operands are read.
-- (SQL, the syntax rules of `<value expression>` and of each predicate.)
use Rattle.wquery.specs.declared.expression.ChainKind.{ChainKind}
use Rattle.wquery.specs.declared.expression.ChainKind.TheVariants.{Disjunction, Conjunction, Sum, Product}
use Rattle.wquery.specs.Tree.{Tree, NullWord, Numeral, Quoted, Field, Invoked, Negated, Signed, Joined, Compared, NullTest}
use Rattle.wquery.specs.Tree.{Within, Among}
use Rattle.wscope.specs.declared.data_type.DataType.{DataType}
use Rattle.wscope.specs.declared.data_type.DataType.TheVariants.{Integer, Text, Truth, Null}
use Rattle.wscope.specs.declared.signature.Signature.{Signature}
use Rattle.wscope.specs.declared.signature.Takes.{Takes}
use Rattle.wscope.specs.declared.signature.Takes.TheVariants.{Any, Truths, Integers, Alike, Arguments}
use Rattle.wscope.specs.declared.signature.Gives.{Gives}
use Rattle.wscope.specs.declared.signature.Gives.TheVariants.{Known, ItsColumn, ItsFunction}

-- a form of one type
abbrev pub form : Takes → DataType → Signature
form takes type = record { takes = takes; gives = Known type }

-- OR and AND take and give truths, sums and products integers
abbrev pub chain_signature : ChainKind → Signature
chain_signature Disjunction = form Truths Truth
chain_signature Conjunction = form Truths Truth
chain_signature Sum = form Integers Integer
chain_signature Product = form Integers Integer

-- of an expression
abbrev pub signature_of : Tree → Signature
signature_of NullWord = form Any Null
signature_of (Numeral n) = form Any Integer
signature_of (Quoted text) = form Any Text
signature_of (Field qualifier name) = record { takes = Any; gives = ItsColumn }
signature_of (Invoked name given filter reach) = record { takes = Arguments; gives = ItsFunction }
signature_of (Negated t) = form Truths Truth
signature_of (Signed minus t) = form Integers Integer
signature_of (Joined kind first links) = chain_signature kind
signature_of (Compared comparison l r) = form Alike Truth
signature_of (NullTest negated t) = form Any Truth
signature_of (Within negated t l h) = form Alike Truth
signature_of (Among negated t list) = form Alike Truth

-- the type that is known of a node without its parts, or that of NULL
abbrev pub known_type : Gives → DataType
known_type (Known type) = type
known_type _ = Null
