-- Tokens with their marks, as the rules of the grammar write them.
use Rattle.std.specs.Prelude.{ℕ, Bool, true, false, List, [], ◌∷◌, ◌++◌, ◌≡◌, map}
use Rattle.jl_token.specs.declared.token.Operator.{Operator}
use Rattle.jl_token.specs.declared.token.Operator.TheVariants as o
use Rattle.jl_typeread.specs.declared.deep.Deep.{Deep}
use Rattle.jl_typeread.specs.declared.terminal.Lexeme.{Lexeme}
use Rattle.jl_typeread.specs.declared.terminal.Terminal.{Terminal}
use Rattle.jl_typeread.specs.declared.terminal.Terminal.TheVariants as S
use Rattle.jl_typeread.specs.declared.terminal.Word.{Word}
use Rattle.jl_typeread.specs.declared.terminal.Word.TheVariants as w
use Rattle.jl_typeread.specs.declared.tree.TypeText.{TypeText}
use Rattle.jl_typeread.specs.declared.tree.VarText.{VarText}
use Rattle.jl_grammar.specs.declared.mark.Ahead.{Ahead}
use Rattle.jl_grammar.specs.declared.mark.Ahead.TheVariants as A
use Rattle.jl_grammar.specs.declared.mark.Marked.{Marked}
use Rattle.jl_grammar.specs.declared.mark.Marks.{Marks}
use Rattle.jl_grammar.specs.declared.mark.Opening.{Opening}
use Rattle.jl_grammar.specs.declared.mark.Opening.TheVariants as O
use Rattle.jl_grammar.specs.declared.tree.Name.{Name}

abbrev pub Text : Type 0
Text = List Marked

-- where a token stands, and its marks
pub record Spot : Type 0 where
  pub at : ℕ
  pub marks : Marks

abbrev pub tok : Terminal → Spot → Marked
tok s p = record { lexeme = record { terminal = s; at = p.at }; marks = p.marks }

-- an operator, a reserved word, a name
abbrev pub opr : Operator → Spot → Marked
opr x p = tok (S.Operator x) p

abbrev pub wrd : Word → Spot → Marked
wrd x p = tok (S.Word x) p

abbrev pub nam : List ℕ → Spot → Marked
nam n p = tok (S.Name n) p

-- a name, and where it stands
abbrev pub name_in : List ℕ → Spot → Name
name_in n p = record { at = p.at; bytes = n }

-- one separator
pub data Sep : Marked → Type 0 where
  semicolon : (p : Spot) → Sep (opr o.Semicolon p)
  newline : (p : Spot) → Sep (tok S.Newline p)

-- the tokens without their marks
abbrev pub lexemes : Text → List Lexeme
lexemes = map (λ m. m.lexeme)

-- ---- what a token begins where a rule must be chosen

abbrev pub is_method : Ahead → Bool
is_method A.Method = true
is_method _ = false

abbrev pub is_sub : Ahead → Bool
is_sub A.Sub = true
is_sub _ = false

abbrev pub is_binding : Opening → Bool
is_binding O.Binding = true
is_binding _ = false

-- a name that is an operand by itself
abbrev pub is_plain : Opening → Bool
is_plain O.Plain = true
is_plain O.Binding = true
is_plain _ = false

-- where a comparison begins, a token with this mark begins its left type
abbrev pub is_left_type : Bool → Ahead → Bool
is_left_type true a = is_sub a
is_left_type false a = false

-- what an item begins with that is an expression: no binding, and no method
abbrev pub is_item_name : Opening → Ahead → Bool
is_item_name O.Binding a = false
is_item_name x A.Method = false
is_item_name x a = true

abbrev pub is_item_terminal : Terminal → Marks → Bool
is_item_terminal (S.Name n) m = is_item_name m.opening m.ahead
is_item_terminal s m = true

abbrev pub is_item_start : Text → Bool
is_item_start [] = false
is_item_start (t ∷ ts) = is_item_terminal t.lexeme.terminal t.marks

-- a statement that is an expression: no binding
abbrev pub is_stmt_name : Opening → Bool
is_stmt_name O.Binding = false
is_stmt_name x = true

abbrev pub is_stmt_terminal : Terminal → Marks → Bool
is_stmt_terminal (S.Name n) m = is_stmt_name m.opening
is_stmt_terminal s m = true

abbrev pub is_stmt_start : Text → Bool
is_stmt_start [] = false
is_stmt_start (t ∷ ts) = is_stmt_terminal t.lexeme.terminal t.marks

-- an evaluated statement that is an expression: no method
abbrev pub is_eval_name : Ahead → Bool
is_eval_name A.Method = false
is_eval_name a = true

abbrev pub is_eval_terminal : Terminal → Marks → Bool
is_eval_terminal (S.Name n) m = is_eval_name m.ahead
is_eval_terminal s m = true

abbrev pub is_eval_start : Text → Bool
is_eval_start [] = false
is_eval_start (t ∷ ts) = is_eval_terminal t.lexeme.terminal t.marks

-- an expression behind `@eval`: no method, and no block
abbrev pub is_evaluated_terminal : Terminal → Marks → Bool
is_evaluated_terminal (S.Name n) m = is_eval_name m.ahead
is_evaluated_terminal (S.Word w.Begin) m = false
is_evaluated_terminal s m = true

abbrev pub is_evaluated_start : Text → Bool
is_evaluated_start [] = false
is_evaluated_start (t ∷ ts) = is_evaluated_terminal t.lexeme.terminal t.marks

-- the marks of the first token
abbrev pub OpensAs : Opening → Text → Type 0
OpensAs x [] = ⊥
OpensAs x (t ∷ ts) = t.marks.opening ≡ x

abbrev pub IsMethodStart : Text → Type 0
IsMethodStart [] = ⊥
IsMethodStart (t ∷ ts) = t.marks.ahead ≡ A.Method

-- the first token begins no type where a comparison begins
abbrev pub IsNoTypeStart : Bool → Text → Type 0
IsNoTypeStart b [] = ⊥
IsNoTypeStart b (t ∷ ts) = is_left_type b t.marks.ahead ≡ false

abbrev pub IsSubStart : Text → Type 0
IsSubStart [] = ⊥
IsSubStart (t ∷ ts) = t.marks.ahead ≡ A.Sub

-- whether a newline follows what is printed
abbrev pub IsPrint : Opening → Bool → Type 0
IsPrint O.Println true = Unit {0}
IsPrint O.Print false = Unit {0}
IsPrint x l = ⊥

-- a name that is bound: `=` follows, and it is no method's
abbrev pub IsBindingName : Spot → Type 0
IsBindingName p = (p.marks.opening ≡ O.Binding) × (is_method p.marks.ahead ≡ false)

-- the source's end, which is no token of the grammar
abbrev pub is_end : Terminal → Bool
is_end S.End = true
is_end s = false

-- none of these tokens is the source's end
abbrev pub NoEnd : Text → Type 0
NoEnd [] = Unit {0}
NoEnd (t ∷ ts) = (is_end t.lexeme.terminal ≡ false) × NoEnd ts
