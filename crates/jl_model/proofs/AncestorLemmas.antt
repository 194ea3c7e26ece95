-- Ancestors compose, stand before their types, and have patterns as arguments.
use Rattle.std.proofs.Common.{◌≡◌, ◌∙◌, sym, ap, subst, refl, ℕ, zero, suc, ◌+◌, ◌<◌, ◌≤◌, arith, Bool, true, false, ◌&&◌, cond, nat_eq, List, [], ◌∷◌, ◌++◌, map, length, get_or, Option, None, Some, ◌⊎◌, inl, inr, slice_get, length-append, append_assoc, append-nil}
use Rattle.std.specs.List.{list_all}
use Rattle.jl_model.specs.declared.ty.Ty.{Ty, out-Ty}
use Rattle.jl_model.specs.declared.ty.Ty.TheOpen.{Ty-F, Any, Union, Tuple, Nominal, Var}
use Rattle.jl_model.specs.declared.ty.Ty.TheVariants as W
use Rattle.jl_model.specs.declared.ty.Bound.{Bound}
use Rattle.jl_model.specs.declared.ty.Decl.{Decl}
use Rattle.jl_model.specs.Subtype.{Table, put, at, put_in}
use Rattle.jl_model.specs.Ancestors.{Ancestor, vars_from, put_under, line_above, line_of, lines_after, args_of, up_in, table_of}
use Rattle.jl_model.proofs.TypeInduction.{Each}
use Rattle.jl_model.proofs.FormLemmas.{put-var}
use Rattle.jl_model.proofs.PutLemmas.{is_pattern, pattern-var, put_pattern, put_at-put, and_l, and_r, both_true}

-- the parent has the declared number of arguments
abbrev pub counted : Option Decl → List Ty → Bool
counted None ys = true
counted (Some d) ys = nat_eq (length ys) (length d.params)

abbrev pub parent_case : List Decl → Ty-F Ty → Bool
parent_case ds (Nominal p ys) = counted (slice_get ds p) ys
parent_case ds _ = true

abbrev pub parent_fits : List Decl → Decl → Bool
parent_fits ds d = parent_case ds (out-Ty d.parent)

-- the parents of all declarations fit those before them
abbrev pub all_fit : List Decl → List Decl → Bool
all_fit ds [] = true
all_fit ds (e ∷ es) = parent_fits ds e && all_fit (ds ++ e ∷ []) es

-- R holds of the arguments of a parent
abbrev pub Parents : (Ty → Type 0) → Decl → Type 0
Parents R d = (p : ℕ) (ys : List Ty) → out-Ty d.parent ≡ Nominal p ys → Each R ys

abbrev pub AllParents : (Ty → Type 0) → List Decl → Type 0
AllParents R [] = Unit {0}
AllParents R (d ∷ ds) = Parents R d × AllParents R ds

-- R holds of variables, and of what comes of putting in types of which it holds
pub record IsKeptByPut (R : Ty → Type 0) : Type 0 where
  pub variable : (v : ℕ) → R (W.Var v)
  pub puts : (ys : List Ty) → Each R ys → (t : Ty) → R t → R (put (at ys) t)

-- what the laws need of a table
pub record Lawful (n : Table) : Type 0 where
  pub through : (k m q : ℕ) (xs ys : List Ty) → nat_eq k m ≡ false → nat_eq m q ≡ false → n.up k m ≡ Some xs → n.up m q ≡ Some ys → n.up k q ≡ Some (map (put (at xs)) ys)
  pub falls : (k m : ℕ) (xs : List Ty) → nat_eq k m ≡ false → n.up k m ≡ Some xs → m < k
  pub patterns : (k m : ℕ) (xs : List Ty) → n.up k m ≡ Some xs → list_all is_pattern xs ≡ true

pub not_eq : (a b : ℕ) → b < a → nat_eq a b ≡ false
not_eq a b h = grind arith

pub eq_of : (a b : ℕ) → nat_eq a b ≡ true → a ≡ b
eq_of a b h = grind (arith, h)

pub flip : (a b : ℕ) → nat_eq a b ≡ false → nat_eq b a ≡ false
flip a b h = grind (arith, h)

-- a line of a table
abbrev line : List (List Ancestor) → ℕ → List Ancestor
line ls k = get_or ls k []

pub data Line (R : Ty → Type 0) (ls : List (List Ancestor)) : ℕ → Type 0 where
  missing : (k : ℕ) → line ls k ≡ [] → Line R ls k
  alone : (k : ℕ) (bs : List Bound) → line ls k ≡ record { name = k; args = vars_from 0 bs } ∷ [] → Line R ls k
  child : (k p : ℕ) (bs : List Bound) (ys : List Ty) → p < k → line ls k ≡ record { name = k; args = vars_from 0 bs } ∷ map (put_under ys) (line ls p)
      → Each R ys → ((zs : List Ty) → args_of p (line ls p) ≡ Some zs → map (put (at ys)) zs ≡ ys) → Line R ls k

-- what is known of the lines of a list of declarations
pub record Lines (R : Ty → Type 0) (ds : List Decl) (ls : List (List Ancestor)) : Type 0 where
  pub long : length ls ≡ length ds
  pub shape : (k : ℕ) → Line R ls k
  pub first : (k : ℕ) (d : Decl) → slice_get ds k ≡ Some d → args_of k (line ls k) ≡ Some (vars_from 0 d.params)

pub get_before : {A : Type 0} (ls : List A) (x d : A) (k : ℕ) → k < length ls → get_or (ls ++ x ∷ []) k d ≡ get_or ls k d
get_before [] x d k h = absurd (omega arith)
get_before (l ∷ ls) x d zero h = refl
get_before (l ∷ ls) x d (suc k) h = get_before ls x d k (omega arith)

get_last : {A : Type 0} (ls : List A) (x d : A) (k : ℕ) → k ≡ length ls → get_or (ls ++ x ∷ []) k d ≡ x
get_last [] x d zero h = refl
get_last [] x d (suc k) h = absurd (omega arith)
get_last (l ∷ ls) x d zero h = absurd (omega arith)
get_last (l ∷ ls) x d (suc k) h = get_last ls x d k (omega arith)

get_past : {A : Type 0} (ls : List A) (d : A) (k : ℕ) → length ls ≤ k → get_or ls k d ≡ d
get_past [] d k h = refl
get_past (l ∷ ls) d zero h = absurd (omega arith)
get_past (l ∷ ls) d (suc k) h = get_past ls d k (omega arith)

pub slice_before : {A : Type 0} (ls : List A) (x : A) (k : ℕ) → k < length ls → slice_get (ls ++ x ∷ []) k ≡ slice_get ls k
slice_before [] x k h = absurd (omega arith)
slice_before (l ∷ ls) x zero h = refl
slice_before (l ∷ ls) x (suc k) h = slice_before ls x k (omega arith)

pub slice_last : {A : Type 0} (ls : List A) (x : A) (k : ℕ) → k ≡ length ls → slice_get (ls ++ x ∷ []) k ≡ Some x
slice_last [] x zero h = refl
slice_last [] x (suc k) h = absurd (omega arith)
slice_last (l ∷ ls) x zero h = absurd (omega arith)
slice_last (l ∷ ls) x (suc k) h = slice_last ls x k (omega arith)

pub slice_past : {A : Type 0} (ls : List A) (k : ℕ) → length ls ≤ k → slice_get ls k ≡ None
slice_past [] k h = refl
slice_past (l ∷ ls) zero h = absurd (omega arith)
slice_past (l ∷ ls) (suc k) h = slice_past ls k (omega arith)

pub long-snoc : {A : Type 0} (ls : List A) (x : A) → length (ls ++ x ∷ []) ≡ length ls + 1
long-snoc ls x = length-append ls (x ∷ [])

-- the own arguments of a type
vars_put : (ys : List Ty) (zs : List Ty) (i : ℕ) (bs : List Bound) → length ys ≡ length bs → ((j : ℕ) → at zs (i + j) ≡ at ys j) → map (put (at zs)) (vars_from i bs) ≡ ys
vars_put [] zs i [] e h = refl
vars_put [] zs i (b ∷ bs) e h = absurd (omega arith)
vars_put (y ∷ ys) zs i [] e h = absurd (omega arith)
vars_put (y ∷ ys) zs i (b ∷ bs) e h =
    let p : put (at zs) (W.Var i) ≡ y = put-var (at zs) i ∙ ap (at zs) (omega arith) ∙ h zero in
    let q : map (put (at zs)) (vars_from (i + 1) bs) ≡ ys = vars_put ys zs (i + 1) bs (omega arith) (λ j. ap (at zs) (omega arith) ∙ h (suc j)) in
    cc

pub own_args : (ys : List Ty) (bs : List Bound) → length ys ≡ length bs → map (put (at ys)) (vars_from 0 bs) ≡ ys
own_args ys bs e = vars_put ys ys 0 bs e (λ j. ap (at ys) (omega arith))

vars_good : (R : Ty → Type 0) → ((v : ℕ) → R (W.Var v)) → (i : ℕ) (bs : List Bound) → Each R (vars_from i bs)
vars_good R h i [] = tt
vars_good R h i (b ∷ bs) = (h i, vars_good R h (i + 1) bs)

puts_good : (R : Ty → Type 0) → IsKeptByPut R → (ys : List Ty) → Each R ys → (zs : List Ty) → Each R zs → Each R (map (put (at ys)) zs)
puts_good R h ys e [] f = tt
puts_good R h ys e (z ∷ zs) f = (h.puts ys e z f.0, puts_good R h ys e zs f.1)

nat_lt_or : (a b : ℕ) → (a < b) ⊎ (b ≤ a)
nat_lt_or zero zero = inr (omega arith)
nat_lt_or zero (suc b) = inl (omega arith)
nat_lt_or (suc a) zero = inr (omega arith)
nat_lt_or (suc a) (suc b) = elim (nat_lt_or a b) [ inl h ↦ inl (omega arith) | inr h ↦ inr (omega arith) ]

-- one more line
module _ (R : Ty → Type 0) (ds : List Decl) (ls : List (List Ancestor)) (d : Decl) (good : Lines R ds ls) (fits : parent_fits ds d ≡ true) (parents : Parents R d) where
  abbrev more : List (List Ancestor)
  more = ls ++ line_of ls d ∷ []

  line_before : (k : ℕ) → k < length ls → line more k ≡ line ls k
  line_before k h = get_before ls (line_of ls d) [] k h

  above_case : (x : Ty-F Ty) → out-Ty d.parent ≡ x → parent_case ds x ≡ true → (k : ℕ) → k ≡ length ls → line more k ≡ record { name = k; args = vars_from 0 d.params } ∷ line_above ls x → Line R more k
  above_case Any o h k e l = alone k d.params l
  above_case (Union ts) o h k e l = alone k d.params l
  above_case (Tuple ts) o h k e l = alone k d.params l
  above_case (Var v) o h k e l = alone k d.params l
  above_case (Nominal p ys) o h k e l = placed (nat_lt_or p (length ls))
    where
      count_is : (o : Option Decl) → slice_get ds p ≡ o → counted o ys ≡ true → p < length ls → (zs : List Ty) → args_of p (line ls p) ≡ Some zs → map (put (at ys)) zs ≡ ys
      count_is None g c lt zs a = absurd (gone ds p (omega (arith, good.long)) g)
        where
          gone : (es : List Decl) (i : ℕ) → i < length es → slice_get es i ≡ None → ⊥
          gone [] i lt g = omega arith
          gone (e ∷ es) zero lt g = cc
          gone (e ∷ es) (suc i) lt g = gone es i (omega arith) g
      count_is (Some b) g c lt zs a =
          let f : Some (vars_from 0 b.params) ≡ Some zs = sym (good.first p b g) ∙ a in
          let s : vars_from 0 b.params ≡ zs = cc in
          ap (map (put (at ys))) (sym s) ∙ own_args ys b.params (eq_of (length ys) (length b.params) c)

      placed : (p < length ls) ⊎ (length ls ≤ p) → Line R more k
      placed (inr far) = alone k d.params (l ∙ ap (λ as_. record { name = k; args = vars_from 0 d.params } ∷ map (put_under ys) as_) (get_past ls [] p far))
      placed (inl near) =
          let same : line more p ≡ line ls p = line_before p near in
          child k p d.params ys (omega arith)
          (l ∙ ap (λ as_. record { name = k; args = vars_from 0 d.params } ∷ map (put_under ys) as_) (sym same))
          (parents p ys o)
          (λ zs a. count_is (slice_get ds p) refl h near zs (ap (args_of p) (sym same) ∙ a))

  carried : (k : ℕ) → k < length ls → Line R ls k → Line R more k
  carried k lt (missing j e) = missing k (line_before k lt ∙ e)
  carried k lt (alone j bs e) = alone k bs (line_before k lt ∙ e)
  carried k lt (child j p bs ys near e h c) =
      let same : line more p ≡ line ls p = line_before p (omega arith) in
      child k p bs ys near (line_before k lt ∙ e ∙ ap (λ as_. record { name = k; args = vars_from 0 bs } ∷ map (put_under ys) as_) (sym same)) h
      (λ zs a. c zs (ap (args_of p) (sym same) ∙ a))

  new_line : (k : ℕ) → k ≡ length ls → line more k ≡ record { name = k; args = vars_from 0 d.params } ∷ line_above ls (out-Ty d.parent)
  new_line k e = get_last ls (line_of ls d) [] k e ∙ ap (λ j. record { name = j; args = vars_from 0 d.params } ∷ line_above ls (out-Ty d.parent)) (sym e)

  shape_more : (k : ℕ) → Line R more k
  shape_more k = elim (nat_lt_or k (length ls)) [
    | inl lt ↦ carried k lt (good.shape k)
    | inr ge ↦ elim (nat_lt_or (length ls) k) [
      | inl gt ↦ missing k (get_past more [] k (omega (arith, long-snoc ls (line_of ls d))))
      | inr le ↦ above_case (out-Ty d.parent) refl fits k (omega arith) (new_line k (omega arith))
    ]
  ]

  same_head : (k : ℕ) (bs : List Bound) (as_ : List Ancestor) → args_of k (record { name = k; args = vars_from 0 bs } ∷ as_) ≡ Some (vars_from 0 bs)
  same_head k bs as_ = let e : nat_eq k k ≡ true = grind arith in rw e refl

  first_more : (k : ℕ) (b : Decl) → slice_get (ds ++ d ∷ []) k ≡ Some b → args_of k (line more k) ≡ Some (vars_from 0 b.params)
  first_more k b g = elim (nat_lt_or k (length ls)) [
    | inl lt ↦ ap (args_of k) (line_before k lt) ∙ good.first k b (sym (slice_before ds d k (omega (arith, good.long))) ∙ g)
    | inr ge ↦ elim (nat_lt_or (length ls) k) [
      | inl gt ↦
          let f : None ≡ Some b = sym (slice_past (ds ++ d ∷ []) k (omega (arith, good.long, long-snoc ds d))) ∙ g in cc
      | inr le ↦
          let f : Some d ≡ Some b = sym (slice_last ds d k (omega (arith, good.long))) ∙ g in
          let s : d ≡ b = cc in
          ap (args_of k) (new_line k (omega arith)) ∙ same_head k d.params (line_above ls (out-Ty d.parent)) ∙ ap (λ (z : Decl). Some (vars_from 0 z.params)) s
    ]
  ]

  pub lines_more : Lines R (ds ++ d ∷ []) (ls ++ line_of ls d ∷ [])
  lines_more = record { long = omega (arith, good.long, long-snoc ds d, long-snoc ls (line_of ls d)); shape = shape_more; first = first_more }

pub lines_fit : (R : Ty → Type 0) (ds es : List Decl) (ls : List (List Ancestor)) → Lines R ds ls → all_fit ds es ≡ true → AllParents R es → Lines R (ds ++ es) (lines_after ls es)
lines_fit R ds [] ls good h q = rw append-nil good
lines_fit R ds (e ∷ es) ls good h q =
    let r = lines_fit R (ds ++ e ∷ []) es (ls ++ line_of ls e ∷ [])
    (lines_more R ds ls e good (and_l (parent_fits ds e) (all_fit (ds ++ e ∷ []) es) h) q.0) (and_r (parent_fits ds e) (all_fit (ds ++ e ∷ []) es) h) q.1 in
    subst (λ zs. Lines R zs (lines_after (ls ++ line_of ls e ∷ []) es)) (append_assoc ds (e ∷ []) es) r

pub lines_none : (R : Ty → Type 0) → Lines R [] []
lines_none R = record { long = refl; shape = λ k. missing k refl; first = λ k d g. let f : None ≡ Some d = g in cc }

-- the arguments of an ancestor, with more put in
args-under : (ys : List Ty) (m : ℕ) (as_ : List Ancestor) → args_of m (map (put_under ys) as_) ≡ put_in ys (args_of m as_)
args-under ys m [] = refl
args-under ys m (a ∷ as_) = pick (nat_eq m a.name) (args-under ys m as_)
  where
    pick : (b : Bool) → args_of m (map (put_under ys) as_) ≡ put_in ys (args_of m as_)
        → cond b (Some (map (put (at ys)) a.args)) (args_of m (map (put_under ys) as_)) ≡ put_in ys (cond b (Some a.args) (args_of m as_))
    pick true e = refl
    pick false e = e

put_in_some : (ys : List Ty) (o : Option (List Ty)) (xs : List Ty) → put_in ys o ≡ Some xs → (zs : List Ty) × (o ≡ Some zs) × (map (put (at ys)) zs ≡ xs)
put_in_some ys None xs e = let f : None ≡ Some xs = e in cc
put_in_some ys (Some zs) xs e = let f : Some (map (put (at ys)) zs) ≡ Some xs = e in (zs, refl, cc)

module _ (R : Ty → Type 0) (ls : List (List Ancestor)) (shape : (k : ℕ) → Line R ls k) where
  abbrev up : ℕ → ℕ → Option (List Ty)
  up k m = args_of m (line ls k)

  abbrev Head : ℕ → List Bound → Ancestor
  Head k bs = record { name = k; args = vars_from 0 bs }

  past_head : (k m : ℕ) (bs : List Bound) (as_ : List Ancestor) → nat_eq k m ≡ false → args_of m (Head k bs ∷ as_) ≡ args_of m as_
  past_head k m bs as_ e = let f : nat_eq m k ≡ false = flip k m e in rw f refl

  above : (k p m : ℕ) (bs : List Bound) (ys : List Ty) → line ls k ≡ Head k bs ∷ map (put_under ys) (line ls p) → nat_eq k m ≡ false → up k m ≡ put_in ys (up p m)
  above k p m bs ys e h = ap (args_of m) e ∙ past_head k m bs (map (put_under ys) (line ls p)) h ∙ args-under ys m (line ls p)

  same_or : (b : Bool) → (b ≡ true) ⊎ (b ≡ false)
  same_or true = inl refl
  same_or false = inr refl

  pub falling : (n k m : ℕ) (xs : List Ty) → k < n → nat_eq k m ≡ false → up k m ≡ Some xs → m < k
  falling zero k m xs lt h u = absurd (omega arith)
  falling (suc n) k m xs lt h u = go (λ p zs l f w. falling n p m zs l f w) (shape k)
    where
      go : ((p : ℕ) (zs : List Ty) → p < n → nat_eq p m ≡ false → up p m ≡ Some zs → m < p) → Line R ls k → m < k
      go ih (missing j e) = let f : None ≡ Some xs = sym (ap (args_of m) e) ∙ u in cc
      go ih (alone j bs e) = let f : None ≡ Some xs = sym (ap (args_of m) e ∙ past_head k m bs [] h) ∙ u in cc
      go ih (child j p bs ys near e q c) =
          let r = put_in_some ys (up p m) xs (sym (above k p m bs ys e h) ∙ u) in
          elim (same_or (nat_eq p m)) [
            | inl t ↦ let z = eq_of p m t in omega arith
            | inr f ↦ let z = ih p r.0 (omega arith) f r.1 in omega arith
          ]

  pub args_good : IsKeptByPut R → (n k m : ℕ) (xs : List Ty) → k < n → up k m ≡ Some xs → Each R xs
  args_good kept zero k m xs lt u = absurd (omega arith)
  args_good kept (suc n) k m xs lt u = elim (same_or (nat_eq k m)) [
    | inl t ↦ own (shape k) (eq_of k m t)
    | inr f ↦ go (λ p zs l w. args_good kept n p m zs l w) (shape k) f
  ]
    where
      first_args : (bs : List Bound) (as_ : List Ancestor) → line ls k ≡ Head k bs ∷ as_ → k ≡ m → Each R xs
      first_args bs as_ e s =
          let g : nat_eq m k ≡ true = grind (arith, s) in
          let a : args_of m (Head k bs ∷ as_) ≡ Some (vars_from 0 bs) = rw g refl in
          let f : Some (vars_from 0 bs) ≡ Some xs = sym a ∙ sym (ap (args_of m) e) ∙ u in
          let v : vars_from 0 bs ≡ xs = cc in
          subst (Each R) v (vars_good R kept.variable 0 bs)

      own : Line R ls k → k ≡ m → Each R xs
      own (missing j e) s = let f : None ≡ Some xs = sym (ap (args_of m) e) ∙ u in cc
      own (alone j bs e) s = first_args bs [] e s
      own (child j p bs ys near e q c) s = first_args bs (map (put_under ys) (line ls p)) e s

      go : ((p : ℕ) (zs : List Ty) → p < n → up p m ≡ Some zs → Each R zs) → Line R ls k → nat_eq k m ≡ false → Each R xs
      go ih (missing j e) h = let f : None ≡ Some xs = sym (ap (args_of m) e) ∙ u in cc
      go ih (alone j bs e) h = let f : None ≡ Some xs = sym (ap (args_of m) e ∙ past_head k m bs [] h) ∙ u in cc
      go ih (child j p bs ys near e q c) h =
          let r = put_in_some ys (up p m) xs (sym (above k p m bs ys e h) ∙ u) in
          subst (Each R) r.2 (puts_good R kept ys q r.0 (ih p r.0 (omega arith) r.1))

  pub composed : (n k m q : ℕ) (xs ys : List Ty) → k < n → nat_eq k m ≡ false → nat_eq m q ≡ false → up k m ≡ Some xs → up m q ≡ Some ys → up k q ≡ Some (map (put (at xs)) ys)
  composed zero k m q xs ys lt h g u w = absurd (omega arith)
  composed (suc n) k m q xs ys lt h g u w = go (λ p zs l f a. composed n p m q zs ys l f g a w) (shape k)
    where
      go : ((p : ℕ) (zs : List Ty) → p < n → nat_eq p m ≡ false → up p m ≡ Some zs → up p q ≡ Some (map (put (at zs)) ys)) → Line R ls k → up k q ≡ Some (map (put (at xs)) ys)
      go ih (missing j e) = let f : None ≡ Some xs = sym (ap (args_of m) e) ∙ u in cc
      go ih (alone j bs e) = let f : None ≡ Some xs = sym (ap (args_of m) e ∙ past_head k m bs [] h) ∙ u in cc
      go ih (child j p bs vs near e t c) =
          let r = put_in_some vs (up p m) xs (sym (above k p m bs vs e h) ∙ u) in
          let down : q < m = falling (suc m) m q ys (omega arith) g w in
          let low : m < k = falling (suc k) k m xs (omega arith) h u in
          let far = above k p q bs vs e (not_eq k q (omega arith)) in
          elim (same_or (nat_eq p m)) [
            | inl s ↦
                let z : p ≡ m = eq_of p m s in
                let a : map (put (at vs)) r.0 ≡ vs = c r.0 (ap (λ i. up p i) z ∙ r.1) in
                let x : vs ≡ xs = sym a ∙ r.2 in
                let w2 : up p q ≡ Some ys = ap (λ i. up i q) z ∙ w in
                far ∙ ap (put_in vs) w2 ∙ ap (λ zs. Some (map (put (at zs)) ys)) x
            | inr f ↦
                let i = ih p r.0 (omega arith) f r.1 in
                far ∙ ap (put_in vs) i ∙ ap (λ zs. Some zs) (put_at-put vs r.0 ys) ∙ ap (λ zs. Some (map (put (at zs)) ys)) r.2
          ]

pub lines_snoc : (ls : List (List Ancestor)) (ds : List Decl) (d : Decl) → lines_after ls (ds ++ d ∷ []) ≡ lines_after ls ds ++ line_of (lines_after ls ds) d ∷ []
lines_snoc ls [] d = refl
lines_snoc ls (e ∷ ds) d = lines_snoc (ls ++ line_of ls e ∷ []) ds d

-- the lines of declarations
pub lines_of : (R : Ty → Type 0) (ds : List Decl) → all_fit [] ds ≡ true → AllParents R ds → Lines R ds (lines_after [] ds)
lines_of R ds h q = lines_fit R [] ds [] (lines_none R) h q

pub up_good : (R : Ty → Type 0) → IsKeptByPut R → (ds : List Decl) → all_fit [] ds ≡ true → AllParents R ds → (k m : ℕ) (xs : List Ty) → up_in ds k m ≡ Some xs → Each R xs
up_good R kept ds h q k m xs u = args_good R (lines_after [] ds) ((lines_of R ds h q).shape) kept (suc k) k m xs (omega arith) u

abbrev pub IsPattern : Ty → Type 0
IsPattern t = is_pattern t ≡ true

pub each_true : (p : Ty → Bool) (ts : List Ty) → Each (λ t. p t ≡ true) ts → list_all p ts ≡ true
each_true p [] e = refl
each_true p (t ∷ ts) e = both_true (p t) (list_all p ts) e.0 (each_true p ts e.1)

pub true_each : (p : Ty → Bool) (ts : List Ty) → list_all p ts ≡ true → Each (λ t. p t ≡ true) ts
true_each p [] e = tt
true_each p (t ∷ ts) e = (and_l (p t) (list_all p ts) e, true_each p ts (and_r (p t) (list_all p ts) e))

patterns_kept : IsKeptByPut IsPattern
patterns_kept = record { variable = pattern-var; puts = λ ys e t h. put_pattern ys (each_true is_pattern ys e) t h }

pub lawful_lines : (ds : List Decl) → all_fit [] ds ≡ true → AllParents IsPattern ds → Lawful (table_of ds)
unfolding table_of
lawful_lines ds h q =
    let good = lines_of IsPattern ds h q in
    let ls = lines_after [] ds in
    record {
      through = λ k m p xs ys f g u w. composed IsPattern ls good.shape (suc k) k m p xs ys (omega arith) f g u w;
      falls = λ k m xs f u. falling IsPattern ls good.shape (suc k) k m xs (omega arith) f u;
      patterns = λ k m xs u. each_true is_pattern xs (up_good IsPattern patterns_kept ds h q k m xs u);
    }
