-- The depth of a written type, and trees beside their depth.
use Rattle.std.specs.Prelude.{ℕ, ◌+◌, max, if◌then◌else◌, nat_lt, nat_le, List, [], ◌∷◌, ◌++◌, map}
use Rattle.jl_model.specs.declared.limits.TheConstants.{MOST_TYPE_DEPTH}
use Rattle.jl_typeread.specs.declared.tree.TypeText.{TypeText}
use Rattle.jl_typeread.specs.declared.tree.ArgText.{ArgText}
use Rattle.jl_typeread.specs.declared.tree.VarText.{VarText}
use Rattle.jl_typeread.specs.declared.tree.ArgText.TheOpen as F
use Rattle.jl_typeread.specs.declared.tree.ArgText.TheOpen.{TypeText-F, ArgText-F, VarText-F}
use Rattle.jl_typeread.specs.declared.tree.ArgText.TheFolds.{fold-TypeText, fold-ArgText, fold-VarText}
use Rattle.jl_typeread.specs.declared.tree.TypeText.TheVariants as T
use Rattle.jl_typeread.specs.declared.tree.ArgText.TheVariants as A
use Rattle.jl_typeread.specs.declared.tree.VarText.TheVariants as V
use Rattle.jl_typeread.specs.declared.tree.ArgText.TheViews as W
use Rattle.jl_typeread.specs.declared.deep.Deep.{Deep}
use Rattle.jl_typeread.specs.declared.deep.Deep.TheVariants.{Built, TooDeep}
use Rattle.jl_typeread.specs.declared.deep.Mark.{Mark}
use Rattle.jl_typeread.specs.declared.deep.Mark.TheVariants as mark

-- the greatest of these numbers, or 0
abbrev pub greatest : List ℕ → ℕ
greatest [] = 0
greatest (n ∷ ns) = max n (greatest ns)

-- a type with nothing in it has depth 1, any other 1 more than the greatest depth of the types directly in it; each pair of parentheses is a type of its own
abbrev pub type_depth_step : TypeText-F ℕ ℕ ℕ → ℕ
type_depth_step (F.Name at name) = 1
type_depth_step (F.Applied at name arguments) = greatest arguments + 1
type_depth_step (F.Paren at t variables) = max t (greatest variables) + 1

-- an argument is as deep as its type
abbrev pub argument_depth_step : ArgText-F ℕ ℕ ℕ → ℕ
argument_depth_step (F.Exact t) = t
argument_depth_step (F.ArgText::Below at t) = t
argument_depth_step (F.ArgText::Above at t) = t

-- a variable is as deep as its bounds
abbrev pub variable_depth_step : VarText-F ℕ ℕ ℕ → ℕ
variable_depth_step (F.Free at name) = 0
variable_depth_step (F.VarText::Below at name t) = t
variable_depth_step (F.VarText::Above at name t) = t
variable_depth_step (F.Between low at name high) = max low high

-- the depth of a written type
abbrev pub type_depth : TypeText → ℕ
type_depth = fold-TypeText ℕ ℕ ℕ argument_depth_step type_depth_step variable_depth_step

-- the depth of an argument
abbrev pub argument_depth : ArgText → ℕ
argument_depth = fold-ArgText ℕ ℕ ℕ argument_depth_step type_depth_step variable_depth_step

-- the depth of a variable
abbrev pub variable_depth : VarText → ℕ
variable_depth = fold-VarText ℕ ℕ ℕ argument_depth_step type_depth_step variable_depth_step

-- the depth of arguments: that of the deepest
abbrev pub arguments_depth : List ArgText → ℕ
arguments_depth xs = greatest (map argument_depth xs)

-- the depth of variables: that of the deepest
abbrev pub variables_depth : List VarText → ℕ
variables_depth vs = greatest (map variable_depth vs)

-- ---- trees beside their depth

-- the depth that no type may pass
abbrev pub depth_limit : ℕ
depth_limit = MOST_TYPE_DEPTH

-- a tree of this depth, where that is within the limit
abbrev pub held : {X : Type 0} → ℕ → X → Deep X
held d x = if nat_le d depth_limit then Built x d else TooDeep

-- a type with its depth
abbrev pub held_type : TypeText → Deep TypeText
held_type t = held (type_depth t) t

-- arguments with their depth
abbrev pub held_arguments : List ArgText → Deep (List ArgText)
held_arguments xs = held (arguments_depth xs) xs

-- a variable with its depth
abbrev pub held_variable : VarText → Deep VarText
held_variable v = held (variable_depth v) v

-- variables with their depth
abbrev pub held_variables : List VarText → Deep (List VarText)
held_variables vs = held (variables_depth vs) vs

-- one level more around a tree
abbrev pub around : {X Y : Type 0} → (X → Y) → Deep X → Deep Y
around f (Built x d) = if nat_lt d depth_limit then Built (f x) (d + 1) else TooDeep
around f TooDeep = TooDeep

-- one level more around two trees
abbrev pub around_both : {X Y Z : Type 0} → (X → Y → Z) → Deep X → Deep Y → Deep Z
around_both f (Built x d) (Built y e) = if nat_lt (max d e) depth_limit then Built (f x y) (max d e + 1) else TooDeep
around_both f (Built x d) TooDeep = TooDeep
around_both f TooDeep y = TooDeep

-- a tree of the same depth
abbrev pub map_deep : {X Y : Type 0} → (X → Y) → Deep X → Deep Y
map_deep f (Built x d) = Built (f x) d
map_deep f TooDeep = TooDeep

-- two trees side by side
abbrev pub join_deep : {X Y Z : Type 0} → (X → Y → Z) → Deep X → Deep Y → Deep Z
join_deep f (Built x d) (Built y e) = Built (f x y) (max d e)
join_deep f (Built x d) TooDeep = TooDeep
join_deep f TooDeep y = TooDeep

-- a name alone
abbrev pub plain_type : ℕ → List ℕ → Deep TypeText
plain_type at name = Built (T.Name at name) 1

-- no arguments
abbrev pub no_arguments : Deep (List ArgText)
no_arguments = Built [] 0

-- no variables
abbrev pub no_variables : Deep (List VarText)
no_variables = Built [] 0

-- an argument of this mark and this type
abbrev pub argument : Mark → TypeText → ArgText
argument mark.Exact t = A.Exact t
argument (mark.Below at) t = A.Below at t
argument (mark.Above at) t = A.Above at t

-- the arguments and one more
abbrev pub with_argument : Deep (List ArgText) → Mark → Deep TypeText → Deep (List ArgText)
with_argument arguments m t = join_deep (λ xs x. xs ++ argument m x ∷ []) arguments t

-- the variables and one more
abbrev pub with_variable : Deep (List VarText) → Deep VarText → Deep (List VarText)
with_variable variables v = join_deep (λ xs x. xs ++ x ∷ []) variables v

-- a name with its arguments
abbrev pub applied_type : ℕ → List ℕ → Deep (List ArgText) → Deep TypeText
applied_type at name arguments = around (W.Applied at name) arguments

-- a type in parentheses, with its variables
abbrev pub paren : ℕ → Deep TypeText → Deep (List VarText) → Deep TypeText
paren at t variables = around_both (W.Paren at) t variables

-- a variable with an upper bound
abbrev pub below_bound : ℕ → List ℕ → Deep TypeText → Deep VarText
below_bound at name t = map_deep (V.Below at name) t

-- a variable with a lower bound
abbrev pub above_bound : ℕ → List ℕ → Deep TypeText → Deep VarText
above_bound at name t = map_deep (V.Above at name) t

-- a variable with both bounds
abbrev pub between_bound : Deep TypeText → ℕ → List ℕ → Deep TypeText → Deep VarText
between_bound low at name high = join_deep (λ l h. V.Between l at name h) low high
