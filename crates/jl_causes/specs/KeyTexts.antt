-- How the text of a type is read, with the names of the types of a table.
use Rattle.std.specs.Prelude.{ℕ, zero, suc, ◌≡◌, ◌++◌, ◌&&◌, ◌||◌, Bool, false, cond, nat_eq, codes, List, [], ◌∷◌, map, drop, bytes_eq, Option, None, Some}
use Rattle.std.specs.Borrow.{Bor}
use Rattle.jl_model.specs.declared.ty.Decl.{Decl}
use Rattle.jl_model.specs.declared.ty.Ty.{Ty}
use Rattle.jl_model.specs.declared.ty.Ty.TheViews as V
use Rattle.jl_model.specs.declared.ty.Ty.TheVariants as W

infixl 10 ◌>>=◌
-- the second reading of what the first gave
abbrev pub ◌>>=◌ : {A B : Type 0} → Option A → (A → Option B) → Option B
None >>= f = None
(Some x) >>= f = f x

-- the brace before types
abbrev pub opening : ℕ
opening = 123

-- the brace after the last type
abbrev pub closing : ℕ
closing = 125

-- what stands between types, with a space after it
abbrev pub comma : ℕ
comma = 44

-- whether a byte ends a name
abbrev pub is_mark : ℕ → Bool
is_mark b = nat_eq b opening || (nat_eq b closing || nat_eq b comma)

-- whether a text begins with a byte
abbrev pub begins : ℕ → List ℕ → Bool
begins b [] = false
begins b (c ∷ cs) = nat_eq c b

-- what stands before the first mark, and the rest
abbrev pub word_at : List ℕ → List ℕ × List ℕ
word_at [] = ([], [])
word_at (c ∷ cs) = cond (is_mark c) ([], c ∷ cs) (c ∷ (word_at cs).0, (word_at cs).1)

-- the names of the types of a table
abbrev pub names_of : List Decl → List (List ℕ)
names_of ds = map (λ (d : Decl). d.name) ds

-- one place further
abbrev pub after : Option ℕ → Option ℕ
after None = None
after (Some n) = Some (suc n)

-- the first place of a name
abbrev pub place_of : List (List ℕ) → List ℕ → Option ℕ
place_of [] name = None
place_of (n ∷ ns) name = cond (bytes_eq name n) (Some 0) (after (place_of ns name))

-- a type without braces
abbrev pub bare : List (List ℕ) → List ℕ → Option Ty
bare names name = cond (bytes_eq name (codes "Any")) (Some W.Any) (place_of names name >>= λ k. Some (V.Nominal k []))

-- a nominal type with arguments
abbrev pub given : List (List ℕ) → List ℕ → List Ty → Option Ty
given names name [] = None
given names name (t ∷ ts) = place_of names name >>= λ k. Some (V.Nominal k (t ∷ ts))

-- a type with braces
abbrev pub made : List (List ℕ) → List ℕ → List Ty → Option Ty
made names name ts =
    cond (bytes_eq name (codes "Union")) (Some (V.Union ts)) (cond (bytes_eq name (codes "Tuple")) (Some (V.Tuple ts)) (given names name ts))

-- after the name and the opening brace of a type, where types in braces are read so
abbrev pub braced : List (List ℕ) → (List ℕ → Option (List Ty × List ℕ)) → List ℕ → List ℕ → Option (Ty × List ℕ)
braced names types name text =
    cond (begins closing text)
    (made names name [] >>= λ t. Some (t, drop 1 text))
    (types text >>= λ q. made names name q.0 >>= λ t. Some (t, q.1))

-- a type after its name
abbrev pub type_by : List (List ℕ) → (List ℕ → Option (List Ty × List ℕ)) → List ℕ × List ℕ → Option (Ty × List ℕ)
type_by names types w =
    cond (begins opening w.1) (braced names types w.0 (drop 1 w.1)) (bare names w.0 >>= λ t. Some (t, w.1))

-- a type at the front of a text, and what follows it
abbrev pub type_at : List (List ℕ) → (List ℕ → Option (List Ty × List ℕ)) → List ℕ → Option (Ty × List ℕ)
type_at names types text = type_by names types (word_at text)

-- after a type in braces: the last one, or one before others
abbrev pub more : (List ℕ → Option (List Ty × List ℕ)) → Ty × List ℕ → Option (List Ty × List ℕ)
more types p =
    cond (begins closing p.1) (Some (p.0 ∷ [], drop 1 p.1))
    (cond (begins comma p.1 && begins 32 (drop 1 p.1)) (types (drop 2 p.1) >>= λ q. Some (p.0 ∷ q.0, q.1)) None)

-- types in braces, of at most so many nodes, up to the closing brace, and what follows it
abbrev pub types_at : List (List ℕ) → ℕ → List ℕ → Option (List Ty × List ℕ)
types_at names zero text = None
types_at names (suc n) text = type_at names (types_at names n) text >>= λ p. more (types_at names n) p

-- types in braces, as many at most and each of at most so many nodes, up to the closing brace, and what follows it
abbrev pub parts_at : List (List ℕ) → ℕ → ℕ → List ℕ → Option (List Ty × List ℕ)
parts_at names zero n text = None
parts_at names (suc many) n text = type_at names (types_at names n) text >>= λ p. more (parts_at names many n) p

-- types after which nothing follows
abbrev pub ended : List Ty → List ℕ → Option (List Ty)
ended ts [] = Some ts
ended ts (c ∷ cs) = None

-- the types before the closing brace with which a text ends
abbrev pub closed_in : List (List ℕ) → ℕ → ℕ → List ℕ → Option (List Ty)
closed_in names many n text = cond (begins closing text) (ended [] (drop 1 text)) (parts_at names many n text >>= λ q. ended q.0 q.1)

-- the types in braces that a text is
abbrev pub braces_in : List (List ℕ) → ℕ → ℕ → List ℕ → Option (List Ty)
braces_in names many n text = cond (begins opening text) (closed_in names many n (drop 1 text)) None

-- the types of the tuple that a whole text is that of, as many at most and each of at most so many nodes
abbrev pub tuple_in : List (List ℕ) → ℕ → ℕ → List ℕ → Option (List Ty)
tuple_in names many n text = cond (bytes_eq (word_at text).0 (codes "Tuple")) (braces_in names many n (word_at text).1) None

-- ---- what the code answers

-- a type with what follows it
abbrev pub followed : Option Ty → List ℕ → Option (Ty × List ℕ)
followed found rest = found >>= λ t. Some (t, rest)

-- this type is read and this follows it, or none is
abbrev pub IsReadTo : Option (Ty × List ℕ) → Option (Ty × Bor (List ℕ)) → Type 0
IsReadTo o None = o ≡ None
IsReadTo o (Some x) = o ≡ Some (x.0, x.1.now)

-- these types are read, behind others, and this follows them, or none are
abbrev pub AreReadTo : Option (List Ty × List ℕ) → List Ty → List Ty → Option (Bor (List ℕ)) → Type 0
AreReadTo o before now None = o ≡ None
AreReadTo o before now (Some rest) = (ts : List Ty) × (now ≡ before ++ ts) × (o ≡ Some (ts, rest.now))
