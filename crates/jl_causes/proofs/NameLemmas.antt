-- The names of the types of a valid program: none has a mark, and no two are the same.
use Rattle.std.proofs.Common.{◌≡◌, ◌∙◌, sym, refl, ap, subst, ℕ, zero, suc, ◌<◌, ◌≤◌, arith, Bool, true, false, not, ◌&&◌, ◌||◌, ◌==◌, cond, nat_eq, nat_lt, codes, List, [], ◌∷◌, ◌++◌, length, map, get_or, bytes_eq, Contains, Some}
use Rattle.std.specs.List.{list_all}
use Rattle.std.specs.Str.{is_utf8, chars, NoCharPasses, NonePass}
use Rattle.std.proofs.lemmas.Str.{IsUtf8-from_is_utf8, encodes-chars, chars-nil, NoCharPasses-byte}
use Rattle.std.specs.Cmp.Lexicographic.{bytes_decides}
use Rattle.unicode_ident.specs.Ident.{is_xid_start, is_xid_continue}
use Rattle.unicode_ident.proofs.IdentLemmas.{is_xid_continue-ascii, is_xid_start-is_xid_continue}
use Rattle.jl_model.specs.declared.ty.Decl.{Decl}
use Rattle.jl_model.specs.Ancestors.{builtin_types}
use Rattle.jl_model.specs.Refusals.{Declared, builtin, added}
use Rattle.jl_program.specs.declared.tree.Program.{Program}
use Rattle.jl_program.specs.Names.{same_text, is_among, are_distinct, builtin_names, reserved_words, starts_name, continues_name, is_word, is_identifier, is_free_name, is_field_name}
use Rattle.jl_program.specs.Text.{type_names}
use Rattle.jl_program.specs.Valid.{IsValid, is_named}
use Rattle.jl_causes.specs.KeyTexts.{opening, closing, comma, is_mark, after, place_of}
use Rattle.jl_causes.proofs.TypeLemmas.{IsTable, is_plain, not_both, and_both, not_is, or_false}

-- ---- an identifier has no mark in it

mark_continues : (c n : ℕ) → c ≡ n → continues_name c ≡ true → continues_name n ≡ false → ⊥
mark_continues c n e h k = not_both (sym h ∙ ap continues_name e ∙ k)

ascii_stops : (n : ℕ) → n < 128 → (is_xid_continue n ≡ false) → (n == 95) ≡ false → continues_name n ≡ false
ascii_stops n l h k = ap (λ b. b || (n == 95)) h ∙ k

no_mark : (c : ℕ) → continues_name c ≡ true → is_mark c ≡ false
no_mark c h = by (nat_eq c opening) (nat_eq c closing) (nat_eq c comma) refl refl refl
  where
    is : (n : ℕ) → nat_eq c n ≡ true → c ≡ n
    is n e = grind (arith, e)

    by : (x y z : Bool) → nat_eq c opening ≡ x → nat_eq c closing ≡ y → nat_eq c comma ≡ z → is_mark c ≡ false
    by true y z e f g = absurd (mark_continues c opening (is opening e) h (ascii_stops opening (omega arith) (is_xid_continue-ascii opening (omega arith)) refl))
    by false true z e f g = absurd (mark_continues c closing (is closing f) h (ascii_stops closing (omega arith) (is_xid_continue-ascii closing (omega arith)) refl))
    by false false true e f g = absurd (mark_continues c comma (is comma g) h (ascii_stops comma (omega arith) (is_xid_continue-ascii comma (omega arith)) refl))
    by false false false e f g = ap (λ b. b || (nat_eq c closing || nat_eq c comma)) e ∙ ap (λ b. b || nat_eq c comma) f ∙ g

start_continues : (c : ℕ) → starts_name c ≡ true → continues_name c ≡ true
start_continues c h = by (is_xid_start c) refl h
  where
    any_of : (a b : Bool) → b ≡ true → a || b ≡ true
    any_of true b k = refl
    any_of false b k = k

    by : (b : Bool) → is_xid_start c ≡ b → b || (c == 95) ≡ true → continues_name c ≡ true
    by true e k = ap (λ z. z || (c == 95)) (is_xid_start-is_xid_continue c e)
    by false e k = any_of (is_xid_continue c) (c == 95) k

all_pass : (cs : List ℕ) → list_all continues_name cs ≡ true → NonePass is_mark cs
all_pass [] h = tt
all_pass (c ∷ cs) h = let p = and_both (continues_name c) (list_all continues_name cs) h in (no_mark c p.0, all_pass cs p.1)

word_passes : (cs : List ℕ) → is_word cs ≡ true → NonePass is_mark cs
word_passes [] h = tt
word_passes (c ∷ cs) h = let p = and_both (starts_name c) (list_all continues_name cs) h in (no_mark c (start_continues c p.0), all_pass cs p.1)

plain_by : (w : List ℕ) → ((i : ℕ) → i < length w → is_mark (get_or w i 0) ≡ false) → is_plain w ≡ true
plain_by [] h = refl
plain_by (c ∷ cs) h = ap (λ b. not b && is_plain cs) (h 0 (omega arith)) ∙ plain_by cs (λ i l. h (suc i) (omega (arith, l)))

large_mark : (b : ℕ) → 128 ≤ b → is_mark b ≡ false
large_mark b l =
    let x : nat_eq b opening ≡ false = grind (arith, l) in
    let y : nat_eq b closing ≡ false = grind (arith, l) in
    let z : nat_eq b comma ≡ false = grind (arith, l) in
    ap (λ t. t || (nat_eq b closing || nat_eq b comma)) x ∙ ap (λ t. t || nat_eq b comma) y ∙ z

pub identifier_plain : (w : List ℕ) → is_identifier w ≡ true → is_plain w ≡ true
identifier_plain w h =
    let p = and_both (is_utf8 w) (is_word (chars w)) h in
    let passes : NoCharPasses is_mark w = (chars w, encodes-chars w (IsUtf8-from_is_utf8 w p.0), word_passes (chars w) p.1) in
    plain_by w (λ i l. by i l passes (nat_lt (get_or w i 0) 128) refl)
  where
    by : (i : ℕ) → i < length w → NoCharPasses is_mark w → (t : Bool) → nat_lt (get_or w i 0) 128 ≡ t → is_mark (get_or w i 0) ≡ false
    by i l n true e = NoCharPasses-byte is_mark w i n l (grind (arith, e))
    by i l n false e = large_mark (get_or w i 0) (grind (arith, e))

pub identifier_some : (w : List ℕ) → is_identifier w ≡ true → 0 < length w
identifier_some [] h =
    let p = and_both (is_utf8 []) (is_word (chars [])) h in
    absurd (not_both (sym p.1 ∙ ap is_word chars-nil))
identifier_some (c ∷ cs) h = omega arith

-- ---- names

pub record IsName (w : List ℕ) : Type 0 where
  pub plain : is_plain w ≡ true
  pub some : 0 < length w
  pub no_any : bytes_eq w (codes "Any") ≡ false
  pub no_union : bytes_eq w (codes "Union") ≡ false
  pub no_tuple : bytes_eq w (codes "Tuple") ≡ false

other_bytes : (w v : List ℕ) → same_text v v ≡ true → same_text w v ≡ false → bytes_eq w v ≡ false
other_bytes w v s h = by (bytes_eq w v) refl
  where
    by : (t : Bool) → bytes_eq w v ≡ t → bytes_eq w v ≡ false
    by true e = absurd (not_both (sym s ∙ ap (λ z. same_text z v) (sym ((bytes_decides w v).0 e)) ∙ h))
    by false e = e

pub free_name : (w : List ℕ) → is_free_name w ≡ true → IsName w
free_name w h =
    let p = and_both (is_identifier w) (not (is_among w reserved_words) && not (is_among w builtin_names)) h in
    let q = and_both (not (is_among w reserved_words)) (not (is_among w builtin_names)) p.1 in
    let out = not_is (is_among w builtin_names) q.1 in
    let a = or_false (same_text w (codes "Any")) _ out in
    let b = or_false (same_text w (codes "Union")) _ a.1 in
    let c = or_false (same_text w (codes "Tuple")) _ b.1 in
    record {
      plain = identifier_plain w p.0;
      some = identifier_some w p.0;
      no_any = other_bytes w (codes "Any") refl a.0;
      no_union = other_bytes w (codes "Union") refl b.0;
      no_tuple = other_bytes w (codes "Tuple") refl c.0;
    }

abbrev AreNames : List (List ℕ) → Type 0
AreNames [] = Unit {0}
AreNames (w ∷ ws) = IsName w × AreNames ws

names_append : (xs ys : List (List ℕ)) → AreNames xs → AreNames ys → AreNames (xs ++ ys)
names_append [] ys h k = k
names_append (x ∷ xs) ys (h, hs) k = (h, names_append xs ys hs k)

name_at : (names : List (List ℕ)) → AreNames names → (k : ℕ) → k < length names → IsName (get_or names k [])
name_at [] h k l = absurd (omega (arith, l))
name_at (w ∷ ws) (h, hs) zero l = h
name_at (w ∷ ws) (h, hs) (suc k) l = name_at ws hs k (omega (arith, l))

builtin_are : AreNames (map (λ (d : Decl). d.name) builtin_types)
builtin_are =
    let name : (w : List ℕ) → is_plain w ≡ true → 0 < length w → bytes_eq w (codes "Any") ≡ false → bytes_eq w (codes "Union") ≡ false → bytes_eq w (codes "Tuple") ≡ false → IsName w =
    λ w p s a u t. record { plain = p; some = s; no_any = a; no_union = u; no_tuple = t } in (
      name (codes "Number") refl (omega arith) refl refl refl,
      (
        name (codes "Real") refl (omega arith) refl refl refl,
        (
          name (codes "Integer") refl (omega arith) refl refl refl,
          (
            name (codes "Signed") refl (omega arith) refl refl refl,
            (
              name (codes "Int64") refl (omega arith) refl refl refl,
              (
                name (codes "Bool") refl (omega arith) refl refl refl,
                (name (codes "Nothing") refl (omega arith) refl refl refl, (name (codes "Task") refl (omega arith) refl refl refl, tt)),
              ),
            ),
          ),
        ),
      ),
    )

declared_are : (ds : List Decl) → list_all is_named ds ≡ true → AreNames (map (λ (d : Decl). d.name) ds)
declared_are [] h = tt
declared_are (d ∷ ds) h =
    let p = and_both (is_named d) (list_all is_named ds) h in
    let q = and_both (is_free_name d.name) (list_all (λ f. is_field_name f.name) d.fields) p.0 in
    (free_name d.name q.0, declared_are ds p.1)

map_append : (xs ys : List Decl) → map (λ (d : Decl). d.name) (xs ++ ys) ≡ map (λ (d : Decl). d.name) xs ++ map (λ (d : Decl). d.name) ys
map_append [] ys = refl
map_append (x ∷ xs) ys = ap (λ z. x.name ∷ z) (map_append xs ys)

-- ---- no two are the same

same_back : (a b : List ℕ) → same_text a b ≡ true → a ≡ b
same_back [] [] h = refl
same_back [] (y ∷ b) h = absurd (not_both (sym h))
same_back (x ∷ a) [] h = absurd (not_both (sym h))
same_back (x ∷ a) (y ∷ b) h =
    let p = and_both (x == y) (same_text a b) h in
    let e : x ≡ y = grind (arith, p.0) in
    (λ i. e i ∷ same_back a b p.1 i)

same_self : (a : List ℕ) → same_text a a ≡ true
same_self [] = refl
same_self (x ∷ a) = let e : (x == x) ≡ true = grind arith in ap (λ b. b && same_text a a) e ∙ same_self a

or_true : (a b : Bool) → b ≡ true → a || b ≡ true
or_true true b h = refl
or_true false b h = h

among_at : (names : List (List ℕ)) (k : ℕ) → k < length names → is_among (get_or names k []) names ≡ true
among_at [] k l = absurd (omega (arith, l))
among_at (n ∷ ns) zero l = ap (λ b. b || is_among n ns) (same_self n)
among_at (n ∷ ns) (suc k) l = or_true (same_text (get_or ns k []) n) (is_among (get_or ns k []) ns) (among_at ns k (omega (arith, l)))

pub place_again : (names : List (List ℕ)) → are_distinct names ≡ true → (k : ℕ) → k < length names → place_of names (get_or names k []) ≡ Some k
place_again [] h k l = absurd (omega (arith, l))
place_again (n ∷ ns) h zero l = ap (λ b. cond b (Some 0) (after (place_of ns n))) ((bytes_decides n n).1 refl)
place_again (n ∷ ns) h (suc k) l =
    let p = and_both (not (is_among n ns)) (are_distinct ns) h in
    ap (λ b. cond b (Some 0) (after (place_of ns (get_or ns k [])))) (differs p.0 (bytes_eq (get_or ns k []) n) refl)
    ∙ ap after (place_again ns p.1 k (omega (arith, l)))
  where
    differs : not (is_among n ns) ≡ true → (t : Bool) → bytes_eq (get_or ns k []) n ≡ t → bytes_eq (get_or ns k []) n ≡ false
    differs q true e = absurd (not_both (sym (among_at ns k (omega (arith, l))) ∙ ap (λ z. is_among z ns) ((bytes_decides (get_or ns k []) n).0 e) ∙ not_is (is_among n ns) q))
    differs q false e = e

-- a name that is among others is at a place
among_place : (name : List ℕ) (names : List (List ℕ)) → is_among name names ≡ true → Contains names name
among_place name [] h = absurd (not_both (sym h))
among_place name (n ∷ ns) h = by (same_text name n) refl (among_place name ns)
  where
    later : Contains ns name → Contains (n ∷ ns) name
    later c = (suc c.0, omega (arith, c.1), c.2)

    by : (t : Bool) → same_text name n ≡ t → (is_among name ns ≡ true → Contains ns name) → Contains (n ∷ ns) name
    by true e rest = (0, omega arith, sym (same_back name n e))
    by false e rest = later (rest (ap (λ b. b || is_among name ns) (sym e) ∙ h))

distinct_more : (names : List (List ℕ)) (name : List ℕ) → are_distinct names ≡ true → is_among name names ≡ false → are_distinct (names ++ name ∷ []) ≡ true
distinct_more [] name h k = refl
distinct_more (n ∷ ns) name h k =
    let p = and_both (not (is_among n ns)) (are_distinct ns) h in
    let q = or_false (same_text name n) (is_among name ns) k in
    ap (λ b. not b && are_distinct (ns ++ name ∷ [])) (apart ns (not_is (is_among n ns) p.0)) ∙ distinct_more ns name p.1 q.1
  where
    other : same_text n name ≡ false
    other = by (same_text n name) refl
      where
        by : (t : Bool) → same_text n name ≡ t → same_text n name ≡ false
        by true e = absurd (not_both (sym (same_self n) ∙ ap (λ z. same_text z n) (same_back n name e) ∙ (or_false (same_text name n) (is_among name ns) k).0))
        by false e = e

    apart : (ms : List (List ℕ)) → is_among n ms ≡ false → is_among n (ms ++ name ∷ []) ≡ false
    apart [] h = ap (λ b. b || false) other
    apart (m ∷ ms) h = let q = or_false (same_text n m) (is_among n ms) h in ap (λ b. b || is_among n (ms ++ name ∷ [])) q.0 ∙ apart ms q.1

fresh_name : (name : List ℕ) (names : List (List ℕ)) → (Contains names name → ⊥) → is_among name names ≡ false
fresh_name name names h = by (is_among name names) refl
  where
    by : (t : Bool) → is_among name names ≡ t → is_among name names ≡ false
    by true e = absurd (h (among_place name names e))
    by false e = e

distinct_types : (ds : List Decl) → Declared ds → are_distinct (map (λ (d : Decl). d.name) ds) ≡ true
distinct_types _ builtin = refl
distinct_types _ (added ds d h r) =
    ap are_distinct (map_append ds (d ∷ []))
    ∙ distinct_more (map (λ (e : Decl). e.name) ds) d.name (distinct_types ds h) (fresh_name d.name (map (λ (e : Decl). e.name) ds) r.allowed.fresh)

pub table_is : (P : Program) → IsValid P → IsTable (type_names P)
table_is P valid =
    let all : AreNames (type_names P) = subst AreNames (sym (map_append builtin_types P.decls)) (names_append (map (λ (d : Decl). d.name) builtin_types) (map (λ (d : Decl). d.name) P.decls) builtin_are (declared_are P.decls valid.named)) in
    record {
      plain = λ k l. (name_at (type_names P) all k l).plain;
      no_any = λ k l. (name_at (type_names P) all k l).no_any;
      no_union = λ k l. (name_at (type_names P) all k l).no_union;
      no_tuple = λ k l. (name_at (type_names P) all k l).no_tuple;
      some = λ k l. (name_at (type_names P) all k l).some;
      place = place_again (type_names P) (distinct_types (builtin_types ++ P.decls) valid.decls);
    }
