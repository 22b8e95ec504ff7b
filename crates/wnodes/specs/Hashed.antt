-- What the head of a node is hashed by: what it says, without what equality looks through.
use Rattle.std.specs.Prelude.{ℕ, [], ◌++◌, Option, Some, None}
use Rattle.std.specs.Hash as fed
use Rattle.std.specs.Hash.{HashWrites}
use Rattle.wquery.specs.declared.expression.ChainKind.{ChainKind}
use Rattle.wquery.specs.declared.expression.ChainKind.TheVariants.{Disjunction, Conjunction, Sum, Product}
use Rattle.wquery.specs.declared.frame.Frame.{Frame}
use Rattle.wquery.specs.declared.frame.FrameBound.{FrameBound}
use Rattle.wquery.specs.Tree.{Tree, NullWord, Numeral, Quoted, Field, Invoked, Negated, Signed, Joined, Compared, NullTest, Within, Among}
use Rattle.wquery.specs.Tree.{Links, NoLinks, Further, Given, Everything, These, Columns, Filter, Unfiltered, FilteredBy}
use Rattle.wquery.specs.Tree.{Reach, ItsGroup, ThatWindow, OwnWindow, Keys, NoKeys, MoreKeys}
use Rattle.wnodes.specs.Nodes.{count_trees}
use Rattle.wnodes.specs.Bounds.{place_of_bound, end_of}
use Rattle.wnodes.specs.Sameness.{comparison_number, exclusion_number, mode_number, nulls_number, offset_in, operator_number}

-- this ends a list, and is no number of an operator
abbrev pub list_end : HashWrites
list_end = fed.u8 12

abbrev pub written_bound : FrameBound → HashWrites
written_bound b = fed.u8 (place_of_bound b) ++ fed.u128 (offset_in b)

abbrev pub written_frame : Option Frame → HashWrites
written_frame None = fed.u8 0
written_frame (Some f) =
    fed.u8 1 ++ fed.u8 (mode_number f.mode) ++ written_bound f.start ++ written_bound (end_of f) ++ fed.u8 (exclusion_number f.exclusion)

-- the operators, from the first on
abbrev pub written_operators : Links → HashWrites
written_operators NoLinks = []
written_operators (Further front operator t) = written_operators front ++ fed.u8 (operator_number operator)

abbrev pub written_links : Links → HashWrites
written_links links = written_operators links ++ list_end

abbrev pub written_keys : Keys → HashWrites
written_keys NoKeys = list_end
written_keys (MoreKeys t descending nulls more) = fed.bool descending ++ fed.u8 (nulls_number nulls) ++ written_keys more

abbrev pub written_given : Given → HashWrites
written_given Everything = fed.usize 0
written_given (These ts) = fed.usize 1 ++ fed.usize (count_trees ts)
written_given (Columns ts) = fed.usize 2 ++ fed.usize (count_trees ts)

abbrev pub written_filter : Filter → HashWrites
written_filter Unfiltered = fed.u8 0
written_filter (FilteredBy t) = fed.u8 1

abbrev pub written_reach : Reach → HashWrites
written_reach ItsGroup = fed.usize 0
written_reach (ThatWindow name) = fed.usize 1 ++ fed.str name
written_reach (OwnWindow copied partition order frame) =
    fed.usize 2 ++ (fed.option fed.str copied ++ (fed.usize (count_trees partition) ++ (written_keys order ++ written_frame frame)))

abbrev pub kind_number : ChainKind → ℕ
kind_number Disjunction = 0
kind_number Conjunction = 1
kind_number Sum = 2
kind_number Product = 3

-- what a node says beside the nodes below it
abbrev pub written : Tree → HashWrites
written NullWord = fed.usize 0
written (Numeral n) = fed.usize 1 ++ fed.u128 n
written (Quoted text) = fed.usize 2 ++ fed.str text
written (Field qualifier name) = fed.usize 3 ++ fed.str name
written (Invoked name given filter reach) =
    fed.usize 4 ++ (fed.str name ++ (written_given given ++ (written_filter filter ++ written_reach reach)))
written (Negated t) = fed.usize 5
written (Signed minus t) = fed.usize 6 ++ fed.bool minus
written (Joined kind t links) = fed.usize 7 ++ (fed.usize (kind_number kind) ++ written_links links)
written (Compared comparison l r) = fed.usize 8 ++ fed.usize (comparison_number comparison)
written (NullTest negated t) = fed.usize 9 ++ fed.bool negated
written (Within negated t l h) = fed.usize 10 ++ fed.bool negated
written (Among negated t list) = fed.usize 11 ++ (fed.bool negated ++ fed.usize (count_trees list))
