use Rattle.std.proofs.Common.{ap, lit<}
use Rattle.wrules.specs.Rules.{number_of}
use Rattle.wsentences.proofs.Numbers.{label_of}
use Rattle.wsentences.proofs.sentences.rule_sentence.Goals as goal

pub returns-in-UnknownTable : goal.returns-in-UnknownTable
returns-in-UnknownTable c = label_of _ 10 (ap number_of c.in-UnknownTable.is) (lit< tt) (lit< tt)

pub returns-in-UnknownColumn : goal.returns-in-UnknownColumn
returns-in-UnknownColumn c = label_of _ 11 (ap number_of c.in-UnknownColumn.is) (lit< tt) (lit< tt)

pub returns-in-AmbiguousName : goal.returns-in-AmbiguousName
returns-in-AmbiguousName c = label_of _ 12 (ap number_of c.in-AmbiguousName.is) (lit< tt) (lit< tt)

pub returns-in-WrongCall : goal.returns-in-WrongCall
returns-in-WrongCall c = label_of _ 13 (ap number_of c.in-WrongCall.is) (lit< tt) (lit< tt)

pub returns-in-WrongType : goal.returns-in-WrongType
returns-in-WrongType c = label_of _ 14 (ap number_of c.in-WrongType.is) (lit< tt) (lit< tt)

pub returns-in-MisplacedWindowCall : goal.returns-in-MisplacedWindowCall
returns-in-MisplacedWindowCall c = label_of _ 15 (ap number_of c.in-MisplacedWindowCall.is) (lit< tt) (lit< tt)

pub returns-in-MisplacedAggregate : goal.returns-in-MisplacedAggregate
returns-in-MisplacedAggregate c = label_of _ 16 (ap number_of c.in-MisplacedAggregate.is) (lit< tt) (lit< tt)

pub returns-in-UngroupedColumn : goal.returns-in-UngroupedColumn
returns-in-UngroupedColumn c = label_of _ 17 (ap number_of c.in-UngroupedColumn.is) (lit< tt) (lit< tt)

pub returns-in-WrongFilter : goal.returns-in-WrongFilter
returns-in-WrongFilter c = label_of _ 18 (ap number_of c.in-WrongFilter.is) (lit< tt) (lit< tt)

pub returns-in-UnknownWindow : goal.returns-in-UnknownWindow
returns-in-UnknownWindow c = label_of _ 19 (ap number_of c.in-UnknownWindow.is) (lit< tt) (lit< tt)

pub returns-in-RepeatedWindow : goal.returns-in-RepeatedWindow
returns-in-RepeatedWindow c = label_of _ 20 (ap number_of c.in-RepeatedWindow.is) (lit< tt) (lit< tt)

pub returns-in-WrongCopy : goal.returns-in-WrongCopy
returns-in-WrongCopy c = label_of _ 21 (ap number_of c.in-WrongCopy.is) (lit< tt) (lit< tt)

pub returns-in-WrongBounds : goal.returns-in-WrongBounds
returns-in-WrongBounds c = label_of _ 22 (ap number_of c.in-WrongBounds.is) (lit< tt) (lit< tt)

pub returns-in-UnorderedGroups : goal.returns-in-UnorderedGroups
returns-in-UnorderedGroups c = label_of _ 23 (ap number_of c.in-UnorderedGroups.is) (lit< tt) (lit< tt)

pub returns-in-WrongRangeKey : goal.returns-in-WrongRangeKey
returns-in-WrongRangeKey c = label_of _ 24 (ap number_of c.in-WrongRangeKey.is) (lit< tt) (lit< tt)

pub returns-in-ZeroCount : goal.returns-in-ZeroCount
returns-in-ZeroCount c = label_of _ 25 (ap number_of c.in-ZeroCount.is) (lit< tt) (lit< tt)

pub returns-in-WrongPlace : goal.returns-in-WrongPlace
returns-in-WrongPlace c = label_of _ 26 (ap number_of c.in-WrongPlace.is) (lit< tt) (lit< tt)

pub returns-in-OverLimit : goal.returns-in-OverLimit
returns-in-OverLimit c = label_of _ 27 (ap number_of c.in-OverLimit.is) (lit< tt) (lit< tt)

pub returns-in-TooManySets : goal.returns-in-TooManySets
returns-in-TooManySets c = label_of _ 28 (ap number_of c.in-TooManySets.is) (lit< tt) (lit< tt)
