-- Which words a name with the mark of a special form is.
use Rattle.std.proofs.Common.{◌≡◌, ℕ, Bool, true, false, cond, codes, bytes_eq, List, ◌∷◌, refl, ap}
use Rattle.std.proofs.lemmas.Slice.Eq.{bytes_eq-Decides}
use Rattle.jl_token.specs.declared.token.Operator.TheVariants as o
use Rattle.jl_typeread.specs.declared.terminal.Terminal.{Terminal}
use Rattle.jl_typeread.specs.declared.terminal.Terminal.TheVariants as S
use Rattle.jl_grammar.specs.declared.mark.Opening.{Opening}
use Rattle.jl_grammar.specs.declared.mark.Opening.TheVariants as O
use Rattle.jl_grammar.specs.Marks.{opening, named_call, is_base}
use Rattle.jl_grammar.specs.Texts.{IsPrint}
use Rattle.jl_print.specs.Printed.{print_name}

pub same_bytes : (a b : List ℕ) → bytes_eq a b ≡ true → a ≡ b
same_bytes a b e = (bytes_eq-Decides a b).0 e

abbrev is_quote : Opening → Bool
is_quote O.Quote = true
is_quote x = false

abbrev is_fetch : Opening → Bool
is_fetch O.Fetch = true
is_fetch x = false

abbrev is_latest : Opening → Bool
is_latest O.Latest = true
is_latest x = false

abbrev is_delete : Opening → Bool
is_delete O.Delete = true
is_delete x = false

abbrev is_spawn : Opening → Bool
is_spawn O.Spawn = true
is_spawn x = false

abbrev is_println : Opening → Bool
is_println O.Println = true
is_println x = false

abbrev is_print : Opening → Bool
is_print O.Print = true
is_print x = false

abbrev named_by : Bool → Bool → Bool → Bool → Opening
named_by a b c d = cond a O.Quote (cond b O.Fetch (cond c O.Println (cond d O.Print O.Call)))

quoted : (a b c d : Bool) → is_quote (named_by a b c d) ≡ true → a ≡ true
quoted true b c d e = refl
quoted false true c d e = e
quoted false false true d e = e
quoted false false false true e = e
quoted false false false false e = e

fetched : (a b c d : Bool) → is_fetch (named_by a b c d) ≡ true → b ≡ true
fetched true b c d e = absurd cc
fetched false true c d e = refl
fetched false false true d e = e
fetched false false false true e = e
fetched false false false false e = e

println-named : (a b c d : Bool) → is_println (named_by a b c d) ≡ true → c ≡ true
println-named true b c d e = absurd cc
println-named false true c d e = absurd cc
println-named false false true d e = refl
println-named false false false true e = e
println-named false false false false e = e

print-named : (a b c d : Bool) → is_print (named_by a b c d) ≡ true → d ≡ true
print-named true b c d e = absurd cc
print-named false true c d e = absurd cc
print-named false false true d e = absurd cc
print-named false false false true e = refl
print-named false false false false e = e

pub quote_word : (n : List ℕ) → named_call n ≡ O.Quote → n ≡ codes "eval"
quote_word n e = same_bytes n (codes "eval") (quoted (bytes_eq n (codes "eval")) (bytes_eq n (codes "fetch")) (bytes_eq n (codes "println")) (bytes_eq n (codes "print")) (ap is_quote e))

pub fetch_word : (n : List ℕ) → named_call n ≡ O.Fetch → n ≡ codes "fetch"
fetch_word n e = same_bytes n (codes "fetch") (fetched (bytes_eq n (codes "eval")) (bytes_eq n (codes "fetch")) (bytes_eq n (codes "println")) (bytes_eq n (codes "print")) (ap is_fetch e))

print-by : (x : Opening) (n : List ℕ) (l : Bool) → named_call n ≡ x → IsPrint x l → n ≡ print_name l
print-by O.Println n true e p = same_bytes n (codes "println") (println-named (bytes_eq n (codes "eval")) (bytes_eq n (codes "fetch")) (bytes_eq n (codes "println")) (bytes_eq n (codes "print")) (ap is_println e))
print-by O.Print n false e p = same_bytes n (codes "print") (print-named (bytes_eq n (codes "eval")) (bytes_eq n (codes "fetch")) (bytes_eq n (codes "println")) (bytes_eq n (codes "print")) (ap is_print e))
print-by x n l e p = absurd p

pub print_word : (n : List ℕ) (l : Bool) → IsPrint (named_call n) l → n ≡ print_name l
print_word n l p = print-by (named_call n) n l refl p

abbrev dotted_by : Bool → Bool → Bool → Bool → Opening
dotted_by a b c d = cond a (cond b O.Latest (cond c O.Delete O.Call)) (cond d O.Plain O.Plain)

latest-first : (a b c d : Bool) → is_latest (dotted_by a b c d) ≡ true → (a ≡ true) × (b ≡ true)
latest-first true true c d e = (refl, refl)
latest-first true false true d e = absurd cc
latest-first true false false d e = absurd cc
latest-first false b c true e = absurd cc
latest-first false b c false e = absurd cc

delete-first : (a b c d : Bool) → is_delete (dotted_by a b c d) ≡ true → (a ≡ true) × (c ≡ true)
delete-first true true c d e = absurd cc
delete-first true false true d e = (refl, refl)
delete-first true false false d e = absurd cc
delete-first false b c true e = absurd cc
delete-first false b c false e = absurd cc

pub latest_words : (n m : List ℕ) (ss : List Terminal) → opening (S.Name n ∷ S.Operator o.Dot ∷ S.Name m ∷ S.Operator o.OpenParen ∷ ss) ≡ O.Latest → (n ≡ codes "Base") × (m ≡ codes "invokelatest")
latest_words n m ss e =
    let both = latest-first (is_base n) (bytes_eq m (codes "invokelatest")) (bytes_eq m (codes "delete_method")) (bytes_eq n (codes "Threads")) (ap is_latest e) in
    (same_bytes n (codes "Base") both.0, same_bytes m (codes "invokelatest") both.1)

pub delete_words : (n m : List ℕ) (ss : List Terminal) → opening (S.Name n ∷ S.Operator o.Dot ∷ S.Name m ∷ S.Operator o.OpenParen ∷ ss) ≡ O.Delete → (n ≡ codes "Base") × (m ≡ codes "delete_method")
delete_words n m ss e =
    let both = delete-first (is_base n) (bytes_eq m (codes "invokelatest")) (bytes_eq m (codes "delete_method")) (bytes_eq n (codes "Threads")) (ap is_delete e) in
    (same_bytes n (codes "Base") both.0, same_bytes m (codes "delete_method") both.1)

spawn-first : (a b c : Bool) → is_spawn (cond a O.Plain (cond b (cond c O.Spawn O.Plain) O.Plain)) ≡ true → (b ≡ true) × (c ≡ true)
spawn-first true b c e = absurd cc
spawn-first false true true e = (refl, refl)
spawn-first false true false e = absurd cc
spawn-first false false c e = absurd cc

pub spawn_words : (n m : List ℕ) (ss : List Terminal) → opening (S.Name n ∷ S.Operator o.Dot ∷ S.Macro m ∷ ss) ≡ O.Spawn → (n ≡ codes "Threads") × (m ≡ codes "spawn")
spawn_words n m ss e =
    let both = spawn-first (is_base n) (bytes_eq n (codes "Threads")) (bytes_eq m (codes "spawn")) (ap is_spawn e) in
    (same_bytes n (codes "Threads") both.0, same_bytes m (codes "spawn") both.1)
