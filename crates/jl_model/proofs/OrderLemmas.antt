-- The order of terms is total, and ties only equal terms.
use Rattle.std.proofs.Common.{◌≡◌, ◌∙◌, sym, ap, refl, ℕ, arith, List, [], ◌∷◌, ◌++◌, map, length, append_assoc}
use Rattle.std.specs.List.{flat_map}
use Rattle.std.specs.Cmp.{IsTotalOrder}
use Rattle.std.specs.declared.cmp.Ordering.TheVariants.{Less, Equal}
use Rattle.std.proofs.lemmas.Cmp.{nat_list_cmp_total, on_total, tied_itself}
use Rattle.std.proofs.lemmas.Map.Lookups.{exact_bytes}
use Rattle.std.proofs.lemmas.List.{length-map}
use Rattle.jl_model.specs.declared.ty.Ty.{Ty}
use Rattle.jl_model.specs.declared.ty.Ty.TheViews as V
use Rattle.jl_model.specs.declared.ty.Ty.TheVariants as W
use Rattle.jl_model.specs.Order.{spelled, spell_all, term_cmp}
use Rattle.jl_model.proofs.TypeInduction.{Each, by_cases}
use Rattle.jl_model.proofs.FormLemmas.{spelled-any, spelled-var, spelled-nominal, spelled-tuple, spelled-none, spelled-union}

-- the six forms
pub data Form : Ty → Type 0 where
  any : Form W.Any
  empty : Form (V.Union [])
  union : (t : Ty) (ts : List Ty) → Form (V.Union (t ∷ ts))
  tuple : (ts : List Ty) → Form (V.Tuple ts)
  nominal : (k : ℕ) (ts : List Ty) → Form (V.Nominal k ts)
  var : (v : ℕ) → Form (W.Var v)

union_form : (ts : List Ty) → Form (V.Union ts)
union_form [] = empty
union_form (t ∷ ts) = union t ts

pub form_of : (t : Ty) → Form t
form_of = by_cases Form (record {
  any = any;
  union = λ ts e. union_form ts;
  tuple = λ ts e. tuple ts;
  nominal = λ k ts e. nominal k ts;
  var = λ v. var v;
})

abbrev spell : (t : Ty) → Form t → List ℕ
spell t any = 1 ∷ []
spell t empty = 0 ∷ []
spell t (union u ts) = 4 ∷ spell_all (map spelled (u ∷ ts))
spell t (tuple ts) = 3 ∷ spell_all (map spelled ts)
spell t (nominal k ts) = 2 ∷ k ∷ spell_all (map spelled ts)
spell t (var v) = 5 ∷ v ∷ []

spell_is : (t : Ty) (f : Form t) → spelled t ≡ spell t f
spell_is t any = spelled-any
spell_is t empty = spelled-none
spell_is t (union u ts) = spelled-union u ts
spell_is t (tuple ts) = spelled-tuple ts
spell_is t (nominal k ts) = spelled-nominal k ts
spell_is t (var v) = spelled-var v

-- a spelling is read in one way
abbrev Reads : Ty → Type 0
Reads t = (u : Ty) (r s : List ℕ) → spelled t ++ r ≡ spelled u ++ s → (t ≡ u) × (r ≡ s)

abbrev flat : List Ty → List ℕ
flat ts = flat_map (λ s. s) (map spelled ts)

read_all : (ts : List Ty) → Each Reads ts → (us : List Ty) (r s : List ℕ) → length ts ≡ length us → flat ts ++ r ≡ flat us ++ s → (ts ≡ us) × (r ≡ s)
read_all [] e [] r s l q = (refl, q)
read_all [] e (u ∷ us) r s l q = absurd (omega arith)
read_all (t ∷ ts) e [] r s l q = absurd (omega arith)
read_all (t ∷ ts) e (u ∷ us) r s l q =
    let h = e.0 u (flat ts ++ r) (flat us ++ s) (sym (append_assoc (spelled t) (flat ts) r) ∙ q ∙ append_assoc (spelled u) (flat us) s) in
    let k = read_all ts e.1 us r s (omega arith) h.1 in
    let a = h.0 in
    let b = k.0 in
    ((cc), k.1)

read_parts : (ts : List Ty) → Each Reads ts → (us : List Ty) (r s : List ℕ) → spell_all (map spelled ts) ++ r ≡ spell_all (map spelled us) ++ s → (ts ≡ us) × (r ≡ s)
read_parts ts e us r s q =
    let l : length (map spelled ts) ≡ length (map spelled us) = cc in
    let k : flat ts ++ r ≡ flat us ++ s = cc in
    read_all ts e us r s (sym (length-map ts spelled) ∙ l ∙ length-map us spelled) k

abbrev first : List ℕ → ℕ
first [] = 9
first (n ∷ ns) = n

tail : (n m : ℕ) (ns ms : List ℕ) → n ∷ ns ≡ m ∷ ms → ns ≡ ms
tail n m ns ms e = cc

same_first : (n m : ℕ) (ns ms : List ℕ) → n ∷ ns ≡ m ∷ ms → n ≡ m
same_first n m ns ms e = cc

reads_any : (u : Ty) (f : Form u) (r s : List ℕ) → spell W.Any any ++ r ≡ spell u f ++ s → (W.Any ≡ u) × (r ≡ s)
reads_any u any r s q = (refl, tail 1 1 r s q)
reads_any u empty r s q = let h = ap first q in absurd (omega arith)
reads_any u (union v us) r s q = let h = ap first q in absurd (omega arith)
reads_any u (tuple us) r s q = let h = ap first q in absurd (omega arith)
reads_any u (nominal m us) r s q = let h = ap first q in absurd (omega arith)
reads_any u (var w) r s q = let h = ap first q in absurd (omega arith)

reads_empty : (u : Ty) (f : Form u) (r s : List ℕ) → spell (V.Union []) empty ++ r ≡ spell u f ++ s → (V.Union [] ≡ u) × (r ≡ s)
reads_empty u any r s q = let h = ap first q in absurd (omega arith)
reads_empty u empty r s q = (refl, tail 0 0 r s q)
reads_empty u (union v us) r s q = let h = ap first q in absurd (omega arith)
reads_empty u (tuple us) r s q = let h = ap first q in absurd (omega arith)
reads_empty u (nominal m us) r s q = let h = ap first q in absurd (omega arith)
reads_empty u (var w) r s q = let h = ap first q in absurd (omega arith)

reads_union : (t : Ty) (ts : List Ty) → Each Reads (t ∷ ts) → (u : Ty) (f : Form u) (r s : List ℕ) → spell (V.Union (t ∷ ts)) (union t ts) ++ r ≡ spell u f ++ s → (V.Union (t ∷ ts) ≡ u) × (r ≡ s)
reads_union t ts e u any r s q = let h = ap first q in absurd (omega arith)
reads_union t ts e u empty r s q = let h = ap first q in absurd (omega arith)
reads_union t ts e u (union v us) r s q =
    let h = read_parts (t ∷ ts) e (v ∷ us) r s (tail 4 4 (spell_all (map spelled (t ∷ ts)) ++ r) (spell_all (map spelled (v ∷ us)) ++ s) q) in (ap (λ z. V.Union z) h.0, h.1)
reads_union t ts e u (tuple us) r s q = let h = ap first q in absurd (omega arith)
reads_union t ts e u (nominal m us) r s q = let h = ap first q in absurd (omega arith)
reads_union t ts e u (var w) r s q = let h = ap first q in absurd (omega arith)

reads_tuple : (ts : List Ty) → Each Reads ts → (u : Ty) (f : Form u) (r s : List ℕ) → spell (V.Tuple ts) (tuple ts) ++ r ≡ spell u f ++ s → (V.Tuple ts ≡ u) × (r ≡ s)
reads_tuple ts e u any r s q = let h = ap first q in absurd (omega arith)
reads_tuple ts e u empty r s q = let h = ap first q in absurd (omega arith)
reads_tuple ts e u (union v us) r s q = let h = ap first q in absurd (omega arith)
reads_tuple ts e u (tuple us) r s q =
    let h = read_parts ts e us r s (tail 3 3 (spell_all (map spelled ts) ++ r) (spell_all (map spelled us) ++ s) q) in (ap (λ z. V.Tuple z) h.0, h.1)
reads_tuple ts e u (nominal m us) r s q = let h = ap first q in absurd (omega arith)
reads_tuple ts e u (var w) r s q = let h = ap first q in absurd (omega arith)

reads_nominal : (k : ℕ) (ts : List Ty) → Each Reads ts → (u : Ty) (f : Form u) (r s : List ℕ) → spell (V.Nominal k ts) (nominal k ts) ++ r ≡ spell u f ++ s → (V.Nominal k ts ≡ u) × (r ≡ s)
reads_nominal k ts e u any r s q = let h = ap first q in absurd (omega arith)
reads_nominal k ts e u empty r s q = let h = ap first q in absurd (omega arith)
reads_nominal k ts e u (union v us) r s q = let h = ap first q in absurd (omega arith)
reads_nominal k ts e u (tuple us) r s q = let h = ap first q in absurd (omega arith)
reads_nominal k ts e u (nominal m us) r s q =
    let b = tail 2 2 (k ∷ spell_all (map spelled ts) ++ r) (m ∷ spell_all (map spelled us) ++ s) q in
    let i = same_first k m (spell_all (map spelled ts) ++ r) (spell_all (map spelled us) ++ s) b in
    let h = read_parts ts e us r s (tail k m (spell_all (map spelled ts) ++ r) (spell_all (map spelled us) ++ s) b) in
    (ap (λ z. V.Nominal z ts) i ∙ ap (λ z. V.Nominal m z) h.0, h.1)
reads_nominal k ts e u (var w) r s q = let h = ap first q in absurd (omega arith)

reads_var : (v : ℕ) (u : Ty) (f : Form u) (r s : List ℕ) → spell (W.Var v) (var v) ++ r ≡ spell u f ++ s → (W.Var v ≡ u) × (r ≡ s)
reads_var v u any r s q = let h = ap first q in absurd (omega arith)
reads_var v u empty r s q = let h = ap first q in absurd (omega arith)
reads_var v u (union w us) r s q = let h = ap first q in absurd (omega arith)
reads_var v u (tuple us) r s q = let h = ap first q in absurd (omega arith)
reads_var v u (nominal m us) r s q = let h = ap first q in absurd (omega arith)
reads_var v u (var w) r s q =
    let b = tail 5 5 (v ∷ r) (w ∷ s) q in
    (ap (λ z. W.Var z) (same_first v w r s b), tail v w r s b)

by_spelling : (t : Ty) (f : Form t) (u : Ty) (r s : List ℕ) → spelled t ++ r ≡ spelled u ++ s → spell t f ++ r ≡ spell u (form_of u) ++ s
by_spelling t f u r s q = ap (λ z. z ++ r) (sym (spell_is t f)) ∙ q ∙ ap (λ z. z ++ s) (spell_is u (form_of u))

reads_members : (ts : List Ty) → Each Reads ts → Reads (V.Union ts)
reads_members [] e u r s q = reads_empty u (form_of u) r s (by_spelling (V.Union []) empty u r s q)
reads_members (t ∷ ts) e u r s q = reads_union t ts e u (form_of u) r s (by_spelling (V.Union (t ∷ ts)) (union t ts) u r s q)

reads : (t : Ty) → Reads t
reads = by_cases Reads (record {
  any = λ u r s q. reads_any u (form_of u) r s (by_spelling W.Any any u r s q);
  union = reads_members;
  tuple = λ ts e u r s q. reads_tuple ts e u (form_of u) r s (by_spelling (V.Tuple ts) (tuple ts) u r s q);
  nominal = λ k ts e u r s q. reads_nominal k ts e u (form_of u) r s (by_spelling (V.Nominal k ts) (nominal k ts) u r s q);
  var = λ v u r s q. reads_var v u (form_of u) r s (by_spelling (W.Var v) (var v) u r s q);
})

pub spelled_once : (a b : Ty) → spelled a ≡ spelled b → a ≡ b
spelled_once a b e = (reads a b [] [] (ap (λ z. z ++ []) e)).0

pub term_order : IsTotalOrder term_cmp
term_order = on_total spelled nat_list_cmp_total

pub tied : (a b : Ty) → term_cmp a b ≡ Equal → a ≡ b
tied a b e = spelled_once a b (exact_bytes (spelled a) (spelled b) e)

pub tied_self : (a : Ty) → term_cmp a a ≡ Equal
tied_self a = tied_itself term_order a

pub not_less : (a : Ty) → term_cmp a a ≡ Less → ⊥
not_less a e = let h = tied_self a in let f : Less ≡ Equal = sym e ∙ h in cc
