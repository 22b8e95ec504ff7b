-- The functions of the language: their names, which are aggregates, and how many arguments they take.
-- (SQL, `<window function>` and `<aggregate function>`; PostgreSQL, Window Functions.)
use Rattle.std.specs.Prelude.{ℕ, Bool, true, false, ◌&&◌, ◌==◌, List, Option, Some, None, codes, if◌then◌else◌, nat_le}
use Rattle.std.specs.Str.{bytes_eq}
use Rattle.wscope.specs.declared.function.Function.{Function}
use Rattle.wscope.specs.declared.function.Function.TheVariants.{RowNumber, Rank, DenseRank, Ntile, Lag, Lead, FirstValue}
use Rattle.wscope.specs.declared.function.Function.TheVariants.{LastValue, NthValue, Count, Sum, Min, Max}

-- the function of this name
abbrev pub function_of : List ℕ → Option Function
function_of name =
    if bytes_eq name (codes "count") then Some Count else (
    if bytes_eq name (codes "sum") then Some Sum else (
    if bytes_eq name (codes "min") then Some Min else (
    if bytes_eq name (codes "max") then Some Max else (
    if bytes_eq name (codes "row_number") then Some RowNumber else (
    if bytes_eq name (codes "rank") then Some Rank else (
    if bytes_eq name (codes "dense_rank") then Some DenseRank else (
    if bytes_eq name (codes "ntile") then Some Ntile else (
    if bytes_eq name (codes "lag") then Some Lag else (
    if bytes_eq name (codes "lead") then Some Lead else (
    if bytes_eq name (codes "first_value") then Some FirstValue else (
    if bytes_eq name (codes "last_value") then Some LastValue else (
    if bytes_eq name (codes "nth_value") then Some NthValue else None))))))))))))

-- whether it is an aggregate
abbrev pub is_aggregate : Function → Bool
is_aggregate Count = true
is_aggregate Sum = true
is_aggregate Min = true
is_aggregate Max = true
is_aggregate _ = false

-- whether it may be given this many arguments
abbrev pub takes : Function → ℕ → Bool
takes RowNumber n = n == 0
takes Rank n = n == 0
takes DenseRank n = n == 0
takes Lag n = nat_le 1 n && nat_le n 3
takes Lead n = nat_le 1 n && nat_le n 3
takes NthValue n = n == 2
takes _ n = n == 1
