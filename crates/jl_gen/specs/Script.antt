-- Generated scripts: how many types, tasks and definitions the script of a number has, and its text.
--
-- A script has a function with a method for each of its types, and one with a method by a variable (Julia manual, Methods:
-- Parametric Methods). Each of its tasks defines a method anew, round by round, and then calls in the newest world (Julia
-- manual, Redefining Methods).
use Rattle.std.specs.Prelude.{ℕ, zero, suc, ◌+◌, ◌*◌, ◌%◌, ◌/◌, codes, decimal, List, [], ◌∷◌, ◌++◌}
use Rattle.jl_gen.specs.declared.numbers.TheConstants.{TYPE_COUNTS, TASK_COUNTS, ROUND_COUNTS}

-- how many struct types the script of a number declares, how many tasks it starts, and how many rounds each of them makes
abbrev pub types_in : ℕ → ℕ
types_in n = 1 + n % TYPE_COUNTS

abbrev pub tasks_in : ℕ → ℕ
tasks_in n = 1 + n / TYPE_COUNTS % TASK_COUNTS

abbrev pub rounds_in : ℕ → ℕ
rounds_in n = n / (TYPE_COUNTS * TASK_COUNTS) % ROUND_COUNTS

-- the text for each number from 0 on, so many of them
abbrev pub for_each : (ℕ → List ℕ) → ℕ → List ℕ
for_each f zero = []
for_each f (suc n) = for_each f n ++ f n

-- lines, each ended by a newline
abbrev pub lines : List (List ℕ) → List ℕ
lines [] = []
lines (l ∷ ls) = l ++ (codes "\n" ++ lines ls)

-- a number between two texts
abbrev pub around : List ℕ → ℕ → List ℕ → List ℕ
around before n after = before ++ (decimal n ++ after)

-- a type, and its method
abbrev pub struct_line : ℕ → List ℕ
struct_line i = around (codes "struct P") i (codes " <: S; x::Int64 end\n")

abbrev pub area_line : ℕ → List ℕ
area_line i = around (codes "area(s::P") i (around (codes ") = s.x + ") i (codes "\n"))

-- a task of so many rounds, and what it gives
abbrev pub spawn_line : ℕ → ℕ → List ℕ
spawn_line rounds i = around (codes "t") i (around (codes " = Threads.@spawn work(") rounds (codes ")\n"))

abbrev pub print_line : ℕ → List ℕ
print_line i = around (codes "println(fetch(t") i (codes "))\n")

unfoldable pub abstract_lines : List ℕ
abstract_lines = lines (codes "abstract type S end" ∷ [])

unfoldable pub area_lines : List ℕ
area_lines = lines (codes "area(s::S) = 0" ∷ [])

unfoldable pub both_lines : List ℕ
both_lines = lines (codes "both(a::S, b::S) = 0" ∷ codes "both(a::T, b::T) where T<:S = area(a) + area(b)" ∷ [])

unfoldable pub redo_lines : List ℕ
redo_lines = lines (codes "function redo()" ∷ codes "    @eval area(s::P0) = s.x + 0" ∷ codes "    nothing" ∷ codes "end" ∷ [])

unfoldable pub work_lines : List ℕ
work_lines = lines (
    codes "function work(n::Int64)"
    ∷ codes "    if n <= 0"
    ∷ codes "        return 0"
    ∷ codes "    end"
    ∷ codes "    redo()"
    ∷ codes "    one = Base.invokelatest(both, P0(n), P0(1))"
    ∷ codes "    one + work(n - 1)"
    ∷ codes "end"
    ∷ [])

-- the types; the methods; the functions that a task calls; the tasks, all started before the first is fetched
abbrev pub type_part : ℕ → List ℕ
type_part types = abstract_lines ++ for_each struct_line types

abbrev pub method_part : ℕ → List ℕ
method_part types = area_lines ++ (for_each area_line types ++ both_lines)

abbrev pub function_part : List ℕ
function_part = redo_lines ++ work_lines

abbrev pub task_part : ℕ → ℕ → List ℕ
task_part tasks rounds = for_each (spawn_line rounds) tasks ++ for_each print_line tasks

-- the text of the script of a number
abbrev pub script_text : ℕ → List ℕ
script_text n = type_part (types_in n) ++ (method_part (types_in n) ++ (function_part ++ task_part (tasks_in n) (rounds_in n)))
