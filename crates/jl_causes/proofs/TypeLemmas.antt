-- The text of a type is read as this type.
use Rattle.std.proofs.Common.{◌≡◌, ◌∙◌, sym, refl, ap, ℕ, zero, suc, ◌<◌, ◌≤◌, arith, Bool, true, false, not, ◌&&◌, ◌||◌, cond, nat_eq, nat_lt, codes, List, [], ◌∷◌, ◌++◌, length, map, drop, get_or, bytes_eq, None, Some, append_assoc, append-nil}
use Rattle.std.specs.List.{list_all, flat_map}
use Rattle.jl_model.specs.declared.ty.Ty.{Ty}
use Rattle.jl_model.specs.declared.ty.Ty.TheOpen as O
use Rattle.jl_model.specs.declared.ty.Ty.TheViews.{rolls-Any, rolls-Union, rolls-Tuple, rolls-Nominal}
use Rattle.jl_model.specs.declared.ty.Ty.TheViews as V
use Rattle.jl_model.specs.declared.ty.Ty.TheVariants as W
use Rattle.jl_model.specs.declared.ty.Ty.TheFolds.{fold-roll-Ty}
use Rattle.jl_model.specs.Counts.{nodes}
use Rattle.jl_model.specs.Rows.{vars_in}
use Rattle.jl_model.specs.Valid.{names_in, names_step}
use Rattle.jl_model.proofs.FormLemmas.{flat_of, vars-union, vars-tuple, vars-nominal, vars-var}
use Rattle.jl_model.proofs.TypeInduction.{Each, by_cases}
use Rattle.jl_model.proofs.CountLemmas.{nodes-any, nodes-var, nodes-union, nodes-tuple, nodes-nominal, nodes_all}
use Rattle.jl_program.specs.declared.tree.Program.{Program}
use Rattle.jl_program.specs.Text.{joined, joined_more, in_braces, arguments, type_step, type_text, type_name, type_names}
use Rattle.jl_causes.specs.KeyTexts.{◌>>=◌, opening, closing, comma, is_mark, begins, word_at, place_of, bare, given, made, braced, type_by, type_at, more, types_at, parts_at, ended, closed_in, braces_in, tuple_in}

-- ---- names

-- whether a name has no mark in it
abbrev pub is_plain : List ℕ → Bool
is_plain name = list_all (λ c. not (is_mark c)) name

-- nothing or a mark stands in front
abbrev pub ends : List ℕ → Bool
ends [] = true
ends (c ∷ cs) = is_mark c

-- no brace follows a name
abbrev pub closes : List ℕ → Bool
closes [] = true
closes (c ∷ cs) = nat_eq c closing || nat_eq c comma

pub not_both : true ≡ false → ⊥
not_both e = cc

pub and_both : (a b : Bool) → a && b ≡ true → (a ≡ true) × (b ≡ true)
and_both true b h = (refl, h)
and_both false b h = absurd (not_both (sym h))

pub not_is : (a : Bool) → not a ≡ true → a ≡ false
not_is true h = absurd (not_both (sym h))
not_is false h = refl

word_front : (name rest : List ℕ) (c : ℕ) → (word_at (name ++ rest) ≡ (name, rest)) → is_mark c ≡ false → word_at (c ∷ (name ++ rest)) ≡ (c ∷ name, rest)
word_front name rest c h e =
    ap (λ b. cond b ([], c ∷ (name ++ rest)) (c ∷ (word_at (name ++ rest)).0, (word_at (name ++ rest)).1)) e ∙ ap (λ (p : List ℕ × List ℕ). (c ∷ p.0, p.1)) h

pub word_again : (name rest : List ℕ) → is_plain name ≡ true → ends rest ≡ true → word_at (name ++ rest) ≡ (name, rest)
word_again [] [] h k = refl
word_again [] (c ∷ cs) h k = ap (λ b. cond b ([], c ∷ cs) (c ∷ (word_at cs).0, (word_at cs).1)) k
word_again (c ∷ cs) rest h k =
    let p = and_both (not (is_mark c)) (is_plain cs) h in
    word_front cs rest c (word_again cs rest p.1 k) (not_is (is_mark c) p.0)

-- ---- a table of names

pub record IsTable (names : List (List ℕ)) : Type 0 where
  pub plain : (k : ℕ) → k < length names → is_plain (get_or names k []) ≡ true
  pub no_any : (k : ℕ) → k < length names → bytes_eq (get_or names k []) (codes "Any") ≡ false
  pub no_union : (k : ℕ) → k < length names → bytes_eq (get_or names k []) (codes "Union") ≡ false
  pub no_tuple : (k : ℕ) → k < length names → bytes_eq (get_or names k []) (codes "Tuple") ≡ false
  pub some : (k : ℕ) → k < length names → 0 < length (get_or names k [])
  pub place : (k : ℕ) → k < length names → place_of names (get_or names k []) ≡ Some k

-- ---- the parts of a type

names-union : (ts : List Ty) → names_in (V.Union ts) ≡ flat_map names_in ts
names-union ts = ap names_in (sym (rolls-Union ts)) ∙ fold-roll-Ty (List ℕ) names_step (O.Union ts) ∙ flat_of names_in ts

pub names-tuple : (ts : List Ty) → names_in (V.Tuple ts) ≡ flat_map names_in ts
names-tuple ts = ap names_in (sym (rolls-Tuple ts)) ∙ fold-roll-Ty (List ℕ) names_step (O.Tuple ts) ∙ flat_of names_in ts

names-nominal : (k : ℕ) (ts : List Ty) → names_in (V.Nominal k ts) ≡ k ∷ flat_map names_in ts
names-nominal k ts = ap names_in (sym (rolls-Nominal k ts)) ∙ fold-roll-Ty (List ℕ) names_step (O.Nominal k ts) ∙ ap (λ ks. k ∷ ks) (flat_of names_in ts)

all_parts : (p : ℕ → Bool) (a b : List ℕ) → list_all p (a ++ b) ≡ true → (list_all p a ≡ true) × (list_all p b ≡ true)
all_parts p [] b h = (refl, h)
all_parts p (c ∷ a) b h =
    let q = and_both (p c) (list_all p (a ++ b)) h in
    let r = all_parts p a b q.1 in
    (ap (λ z. z && list_all p a) q.0 ∙ r.0, r.1)

never_nil : (c : ℕ) (cs : List ℕ) → c ∷ cs ≡ [] → ⊥
never_nil c cs e = (let l : length (c ∷ cs) ≡ 0 = ap length e in omega (arith, l))

nil_parts : (a b : List ℕ) → a ++ b ≡ [] → (a ≡ []) × (b ≡ [])
nil_parts [] b h = (refl, h)
nil_parts (c ∷ a) b h = absurd (never_nil c (a ++ b) h)

pub some_nodes : (t : Ty) → 0 < nodes t
some_nodes = by_cases (λ t. 0 < nodes t) (record {
  any = omega (arith, nodes-any);
  union = λ ts h. omega (arith, nodes-union ts);
  tuple = λ ts h. omega (arith, nodes-tuple ts);
  nominal = λ k ts h. omega (arith, nodes-nominal k ts);
  var = λ v. omega (arith, nodes-var v);
})

-- ---- reading

-- whether the numbers of nominal types are of a table of so many types
abbrev pub are_of : ℕ → List ℕ → Bool
are_of m ks = list_all (λ k. nat_lt k m) ks

-- a type is read from the front of a text that begins with its own
abbrev pub IsRead : Program → Ty → Type 0
IsRead P t =
    are_of (length (type_names P)) (names_in t) ≡ true → vars_in t ≡ []
    → (n : ℕ) (rest : List ℕ) → nodes t ≤ suc n → closes rest ≡ true → type_at (type_names P) (types_at (type_names P) n) (type_text P t ++ rest) ≡ Some (t, rest)

text-any : (P : Program) → type_text P W.Any ≡ codes "Any"
text-any P = ap (type_text P) (sym rolls-Any) ∙ fold-roll-Ty (List ℕ) (type_step P) O.Any

text-union : (P : Program) (ts : List Ty) → type_text P (V.Union ts) ≡ codes "Union" ++ in_braces (map (type_text P) ts)
text-union P ts = ap (type_text P) (sym (rolls-Union ts)) ∙ fold-roll-Ty (List ℕ) (type_step P) (O.Union ts)

text-tuple : (P : Program) (ts : List Ty) → type_text P (V.Tuple ts) ≡ codes "Tuple" ++ in_braces (map (type_text P) ts)
text-tuple P ts = ap (type_text P) (sym (rolls-Tuple ts)) ∙ fold-roll-Ty (List ℕ) (type_step P) (O.Tuple ts)

text-nominal : (P : Program) (k : ℕ) (ts : List Ty) → type_text P (V.Nominal k ts) ≡ type_name P k ++ arguments (map (type_text P) ts)
text-nominal P k ts = ap (type_text P) (sym (rolls-Nominal k ts)) ∙ fold-roll-Ty (List ℕ) (type_step P) (O.Nominal k ts)

-- the text of types in braces, after the opening one
abbrev listed : Program → List Ty → List ℕ → List ℕ
listed P ts rest = joined (map (type_text P) ts) ++ closing ∷ rest

braces_are : (ts : List (List ℕ)) (rest : List ℕ) → in_braces ts ++ rest ≡ opening ∷ (joined ts ++ closing ∷ rest)
braces_are ts rest = ap (λ z. opening ∷ z) (append_assoc (joined ts) (closing ∷ []) rest)

closing_ends : (rest : List ℕ) → closes rest ≡ true → ends rest ≡ true
closing_ends [] h = refl
closing_ends (c ∷ cs) h = by (nat_eq c opening) (nat_eq c closing) (nat_eq c comma) h
  where
    by : (a b d : Bool) → b || d ≡ true → a || (b || d) ≡ true
    by true b d h = refl
    by false b d h = h

closing_no_brace : (rest : List ℕ) → closes rest ≡ true → begins opening rest ≡ false
closing_no_brace [] h = refl
closing_no_brace (c ∷ cs) h = by (nat_eq c opening) refl
  where
    by : (a : Bool) → nat_eq c opening ≡ a → nat_eq c opening ≡ false
    by true e =
        let is : c ≡ opening = grind (arith, e) in
        absurd (not_both (sym h ∙ ap (λ z. nat_eq z closing || nat_eq z comma) is))
    by false e = e

pub or_false : (a b : Bool) → a || b ≡ false → (a ≡ false) × (b ≡ false)
or_false true b h = absurd (not_both h)
or_false false b h = (refl, h)

name_opens : (name rest : List ℕ) → is_plain name ≡ true → 0 < length name → begins closing (name ++ rest) ≡ false
name_opens [] rest h l = absurd (omega (arith, l))
name_opens (c ∷ cs) rest h l =
    let m : is_mark c ≡ false = not_is (is_mark c) (and_both (not (is_mark c)) (is_plain cs) h).0 in
    (or_false (nat_eq c closing) (nat_eq c comma) (or_false (nat_eq c opening) (nat_eq c closing || nat_eq c comma) m).1).0

number_of : (k m : ℕ) (b : Bool) → nat_lt k m && b ≡ true → (k < m) × (b ≡ true)
number_of k m b h = let p = and_both (nat_lt k m) b h in (below k m p.0, p.1)
  where
    below : (k m : ℕ) → nat_lt k m ≡ true → k < m
    below k m e = grind (arith, e)

-- each has at most so many nodes
abbrev pub AreSmall : ℕ → List Ty → Type 0
AreSmall n [] = Unit {0}
AreSmall n (t ∷ ts) = (nodes t ≤ suc n) × AreSmall n ts

module _ (P : Program) (table : IsTable (type_names P)) where
  -- no type begins with a closing brace
  opens : (t : Ty) → are_of (length (type_names P)) (names_in t) ≡ true → vars_in t ≡ [] → (rest : List ℕ) → begins closing (type_text P t ++ rest) ≡ false
  opens = by_cases (λ t. are_of (length (type_names P)) (names_in t) ≡ true → vars_in t ≡ [] → (rest : List ℕ) → begins closing (type_text P t ++ rest) ≡ false) (record {
    any = λ k v rest. ap (λ z. begins closing (z ++ rest)) (text-any P);
    union = λ ts h k v rest. ap (λ z. begins closing (z ++ rest)) (text-union P ts);
    tuple = λ ts h k v rest. ap (λ z. begins closing (z ++ rest)) (text-tuple P ts);
    nominal = λ j ts h k v rest.
        let n = number_of j (length (type_names P)) (are_of (length (type_names P)) (flat_map names_in ts)) (ap (are_of (length (type_names P))) (sym (names-nominal j ts)) ∙ k) in
        ap (λ z. begins closing (z ++ rest)) (text-nominal P j ts)
        ∙ ap (begins closing) (append_assoc (type_name P j) (arguments (map (type_text P) ts)) rest)
        ∙ name_opens (type_name P j) (arguments (map (type_text P) ts) ++ rest) (table.plain j n.0) (table.some j n.0);
    var = λ v k e rest. absurd (never_nil v [] (sym (vars-var v) ∙ e));
  })

  -- one type, and those after it
  items_again : (t : Ty) (ts : List Ty) → IsRead P t → Each (IsRead P) ts → are_of (length (type_names P)) (flat_map names_in (t ∷ ts)) ≡ true → flat_map vars_in (t ∷ ts) ≡ []
      → (n : ℕ) (rest : List ℕ) → nodes_all (t ∷ ts) ≤ n → types_at (type_names P) n (listed P (t ∷ ts) rest) ≡ Some (t ∷ ts, rest)
  items_again t ts r rs known closed zero rest l = absurd (omega (arith, l, some_nodes t))
  items_again t [] r rs known closed (suc n) rest l =
      let k = all_parts (λ k. nat_lt k (length (type_names P))) (names_in t) [] known in
      let v = nil_parts (vars_in t) [] closed in
      ap (λ z. type_at (type_names P) (types_at (type_names P) n) (z ++ closing ∷ rest) >>= λ p. more (types_at (type_names P) n) p) (append-nil (type_text P t))
      ∙ ap (λ o. o >>= λ p. more (types_at (type_names P) n) p) (r k.0 v.0 n (closing ∷ rest) (omega (arith, l)) refl)
  items_again t (u ∷ us) r rs known closed (suc n) rest l =
      let k = all_parts (λ k. nat_lt k (length (type_names P))) (names_in t) (flat_map names_in (u ∷ us)) known in
      let v = nil_parts (vars_in t) (flat_map vars_in (u ∷ us)) closed in
      ap (λ z. type_at (type_names P) (types_at (type_names P) n) z >>= λ p. more (types_at (type_names P) n) p)
      (append_assoc (type_text P t) (codes ", " ++ joined (map (type_text P) (u ∷ us))) (closing ∷ rest))
      ∙ ap (λ o. o >>= λ p. more (types_at (type_names P) n) p) (r k.0 v.0 n (codes ", " ++ listed P (u ∷ us) rest) (omega (arith, l)) refl)
      ∙ ap (λ o. o >>= λ z. Some (t ∷ z.0, z.1)) (items_again u us rs.0 rs.1 k.1 v.1 n rest (omega (arith, l, some_nodes t)))

  -- what follows a name with braces
  braced_again : (name : List ℕ) (ts : List Ty) (t : Ty) → made (type_names P) name ts ≡ Some t → Each (IsRead P) ts → are_of (length (type_names P)) (flat_map names_in ts) ≡ true → flat_map vars_in ts ≡ []
      → (n : ℕ) (rest : List ℕ) → nodes_all ts ≤ n → braced (type_names P) (types_at (type_names P) n) name (listed P ts rest) ≡ Some (t, rest)
  braced_again name [] t m rs known closed n rest l = ap (λ o. o >>= λ x. Some (x, rest)) m
  braced_again name (u ∷ us) t m rs known closed n rest l =
      let k = all_parts (λ k. nat_lt k (length (type_names P))) (names_in u) (flat_map names_in us) known in
      let v = nil_parts (vars_in u) (flat_map vars_in us) closed in
      let open_is : begins closing (listed P (u ∷ us) rest) ≡ false =
      ap (begins closing) (append_assoc (type_text P u) (joined_more (map (type_text P) us)) (closing ∷ rest)) ∙ opens u k.0 v.0 (joined_more (map (type_text P) us) ++ closing ∷ rest) in
      ap (λ b. cond b (made (type_names P) name [] >>= λ x. Some (x, drop 1 (listed P (u ∷ us) rest))) (types_at (type_names P) n (listed P (u ∷ us) rest) >>= λ q. made (type_names P) name q.0 >>= λ x. Some (x, q.1))) open_is
      ∙ ap (λ o. o >>= λ q. made (type_names P) name q.0 >>= λ x. Some (x, q.1)) (items_again u us rs.0 rs.1 known closed n rest l)
      ∙ ap (λ o. o >>= λ x. Some (x, rest)) m

  -- a name with types in braces
  named_again : (name : List ℕ) (ts : List Ty) (t : Ty) → is_plain name ≡ true → made (type_names P) name ts ≡ Some t → Each (IsRead P) ts
      → are_of (length (type_names P)) (flat_map names_in ts) ≡ true → flat_map vars_in ts ≡ [] → (n : ℕ) (rest : List ℕ) → nodes_all ts ≤ n
      → type_at (type_names P) (types_at (type_names P) n) (name ++ (in_braces (map (type_text P) ts) ++ rest)) ≡ Some (t, rest)
  named_again name ts t plain m rs known closed n rest l =
      ap (λ z. type_at (type_names P) (types_at (type_names P) n) (name ++ z)) (braces_are (map (type_text P) ts) rest)
      ∙ ap (type_by (type_names P) (types_at (type_names P) n)) (word_again name (opening ∷ listed P ts rest) plain refl)
      ∙ braced_again name ts t m rs known closed n rest l

  -- a nominal type by its name and its arguments
  nominal_again : (j : ℕ) (ts : List Ty) → j < length (type_names P) → Each (IsRead P) ts → are_of (length (type_names P)) (flat_map names_in ts) ≡ true → flat_map vars_in ts ≡ []
      → (n : ℕ) (rest : List ℕ) → nodes_all ts ≤ n → closes rest ≡ true
      → type_at (type_names P) (types_at (type_names P) n) (type_name P j ++ (arguments (map (type_text P) ts) ++ rest)) ≡ Some (V.Nominal j ts, rest)
  nominal_again j [] b rs known closed n rest l c =
      ap (type_by (type_names P) (types_at (type_names P) n)) (word_again (type_name P j) rest (table.plain j b) (closing_ends rest c))
      ∙ ap (λ z. cond z (braced (type_names P) (types_at (type_names P) n) (type_name P j) (drop 1 rest)) (bare (type_names P) (type_name P j) >>= λ t. Some (t, rest))) (closing_no_brace rest c)
      ∙ ap (λ z. cond z (Some W.Any) (place_of (type_names P) (type_name P j) >>= λ k. Some (V.Nominal k [])) >>= λ t. Some (t, rest)) (table.no_any j b)
      ∙ ap (λ o. (o >>= λ k. Some (V.Nominal k [])) >>= λ t. Some (t, rest)) (table.place j b)
  nominal_again j (u ∷ us) b rs known closed n rest l c =
      named_again (type_name P j) (u ∷ us) (V.Nominal j (u ∷ us)) (table.plain j b) made_is rs known closed n rest l
    where
      made_is : made (type_names P) (type_name P j) (u ∷ us) ≡ Some (V.Nominal j (u ∷ us))
      made_is =
          ap (λ z. cond z (Some (V.Union (u ∷ us))) (cond (bytes_eq (type_name P j) (codes "Tuple")) (Some (V.Tuple (u ∷ us))) (given (type_names P) (type_name P j) (u ∷ us)))) (table.no_union j b)
          ∙ ap (λ z. cond z (Some (V.Tuple (u ∷ us))) (given (type_names P) (type_name P j) (u ∷ us))) (table.no_tuple j b)
          ∙ ap (λ o. o >>= λ k. Some (V.Nominal k (u ∷ us))) (table.place j b)

  pub type_again : (t : Ty) → IsRead P t
  type_again = by_cases (IsRead P) (record {
    any = λ k v n rest l c.
        ap (λ z. type_at (type_names P) (types_at (type_names P) n) (z ++ rest)) (text-any P)
        ∙ ap (type_by (type_names P) (types_at (type_names P) n)) (word_again (codes "Any") rest refl (closing_ends rest c))
        ∙ ap (λ z. cond z (braced (type_names P) (types_at (type_names P) n) (codes "Any") (drop 1 rest)) (bare (type_names P) (codes "Any") >>= λ t. Some (t, rest))) (closing_no_brace rest c);
    union = λ ts h k v n rest l c.
        ap (λ z. type_at (type_names P) (types_at (type_names P) n) (z ++ rest)) (text-union P ts)
        ∙ named_again (codes "Union") ts (V.Union ts) refl refl h (ap (are_of (length (type_names P))) (sym (names-union ts)) ∙ k) (sym (vars-union ts) ∙ v) n rest (omega (arith, l, nodes-union ts));
    tuple = λ ts h k v n rest l c.
        ap (λ z. type_at (type_names P) (types_at (type_names P) n) (z ++ rest)) (text-tuple P ts)
        ∙ named_again (codes "Tuple") ts (V.Tuple ts) refl refl h (ap (are_of (length (type_names P))) (sym (names-tuple ts)) ∙ k) (sym (vars-tuple ts) ∙ v) n rest (omega (arith, l, nodes-tuple ts));
    nominal = λ j ts h k v n rest l c.
        let w = number_of j (length (type_names P)) (are_of (length (type_names P)) (flat_map names_in ts)) (ap (are_of (length (type_names P))) (sym (names-nominal j ts)) ∙ k) in
        ap (λ z. type_at (type_names P) (types_at (type_names P) n) (z ++ rest)) (text-nominal P j ts)
        ∙ ap (type_at (type_names P) (types_at (type_names P) n)) (append_assoc (type_name P j) (arguments (map (type_text P) ts)) rest)
        ∙ nominal_again j ts w.0 h w.1 (sym (vars-nominal j ts) ∙ v) n rest (omega (arith, l, nodes-nominal j ts)) c;
    var = λ w k v. absurd (never_nil w [] (sym (vars-var w) ∙ v));
  })

  -- ---- the types of a tuple

  parts_again : (t : Ty) (ts : List Ty) → are_of (length (type_names P)) (flat_map names_in (t ∷ ts)) ≡ true → flat_map vars_in (t ∷ ts) ≡ []
      → (many n : ℕ) (rest : List ℕ) → length (t ∷ ts) ≤ many → AreSmall n (t ∷ ts) → parts_at (type_names P) many n (listed P (t ∷ ts) rest) ≡ Some (t ∷ ts, rest)
  parts_again t ts known closed zero n rest l s = absurd (omega (arith, l))
  parts_again t [] known closed (suc many) n rest l s =
      let k = all_parts (λ k. nat_lt k (length (type_names P))) (names_in t) [] known in
      let v = nil_parts (vars_in t) [] closed in
      ap (λ z. type_at (type_names P) (types_at (type_names P) n) (z ++ closing ∷ rest) >>= λ p. more (parts_at (type_names P) many n) p) (append-nil (type_text P t))
      ∙ ap (λ o. o >>= λ p. more (parts_at (type_names P) many n) p) (type_again t k.0 v.0 n (closing ∷ rest) s.0 refl)
  parts_again t (u ∷ us) known closed (suc many) n rest l s =
      let k = all_parts (λ k. nat_lt k (length (type_names P))) (names_in t) (flat_map names_in (u ∷ us)) known in
      let v = nil_parts (vars_in t) (flat_map vars_in (u ∷ us)) closed in
      ap (λ z. type_at (type_names P) (types_at (type_names P) n) z >>= λ p. more (parts_at (type_names P) many n) p)
      (append_assoc (type_text P t) (codes ", " ++ joined (map (type_text P) (u ∷ us))) (closing ∷ rest))
      ∙ ap (λ o. o >>= λ p. more (parts_at (type_names P) many n) p) (type_again t k.0 v.0 n (codes ", " ++ listed P (u ∷ us) rest) s.0 refl)
      ∙ ap (λ o. o >>= λ z. Some (t ∷ z.0, z.1)) (parts_again u us k.1 v.1 many n rest (omega (arith, l)) s.1)

  closed_again : (ts : List Ty) → are_of (length (type_names P)) (flat_map names_in ts) ≡ true → flat_map vars_in ts ≡ [] → (many n : ℕ) → length ts ≤ many → AreSmall n ts
      → closed_in (type_names P) many n (listed P ts []) ≡ Some ts
  closed_again [] known closed many n l s = refl
  closed_again (u ∷ us) known closed many n l s =
      let k = all_parts (λ k. nat_lt k (length (type_names P))) (names_in u) (flat_map names_in us) known in
      let v = nil_parts (vars_in u) (flat_map vars_in us) closed in
      let open_is : begins closing (listed P (u ∷ us) []) ≡ false =
      ap (begins closing) (append_assoc (type_text P u) (joined_more (map (type_text P) us)) (closing ∷ [])) ∙ opens u k.0 v.0 (joined_more (map (type_text P) us) ++ closing ∷ []) in
      ap (λ b. cond b (ended [] (drop 1 (listed P (u ∷ us) []))) (parts_at (type_names P) many n (listed P (u ∷ us) []) >>= λ q. ended q.0 q.1)) open_is
      ∙ ap (λ o. o >>= λ q. ended q.0 q.1) (parts_again u us known closed many n [] l s)

  -- the whole text of a tuple
  pub tuple_again : (ts : List Ty) (many n : ℕ) → are_of (length (type_names P)) (flat_map names_in ts) ≡ true → flat_map vars_in ts ≡ [] → length ts ≤ many → AreSmall n ts
      → tuple_in (type_names P) many n (type_text P (V.Tuple ts)) ≡ Some ts
  tuple_again ts many n k v l s =
      let braces : in_braces (map (type_text P) ts) ≡ opening ∷ listed P ts [] = sym (append-nil (in_braces (map (type_text P) ts))) ∙ braces_are (map (type_text P) ts) [] in
      ap (tuple_in (type_names P) many n) (text-tuple P ts ∙ ap (λ z. codes "Tuple" ++ z) braces)
      ∙ ap (λ (w : List ℕ × List ℕ). cond (bytes_eq w.0 (codes "Tuple")) (braces_in (type_names P) many n w.1) None) (word_again (codes "Tuple") (opening ∷ listed P ts []) refl refl)
      ∙ closed_again ts k v many n l s
