-- The names of a valid program may stand in a line, and have no space in them.
use Rattle.std.proofs.Common.{◌≡◌, ◌∙◌, sym, refl, ap, subst, ℕ, zero, suc, ◌<◌, arith, Bool, true, false, not, ◌&&◌, ◌||◌, ◌==◌, nat_eq, nat_lt, codes, List, [], ◌∷◌, ◌++◌, length, map, get_or, take, drop, take-append-drop, Option, None, Some, slice_get}
use Rattle.std.specs.List.{list_all}
use Rattle.std.specs.Str.{is_utf8, chars, NoCharPasses, NonePass}
use Rattle.std.proofs.lemmas.Str.{IsUtf8-from_is_utf8, encodes-chars, chars-nil, NoCharPasses-byte}
use Rattle.unicode_ident.specs.Ident.{is_xid_start, is_xid_continue}
use Rattle.unicode_ident.proofs.IdentLemmas.{is_xid_continue-ascii, is_xid_start-is_xid_continue}
use Rattle.jl_model.specs.declared.ty.Decl.{Decl}
use Rattle.jl_model.specs.declared.ty.Field.{Field}
use Rattle.jl_model.specs.Ancestors.{builtin_types}
use Rattle.jl_program.specs.declared.tree.Program.{Program}
use Rattle.jl_program.specs.Names.{is_among, builtin_names, reserved_words, starts_name, continues_name, is_word, is_identifier, is_free_name, is_field_name}
use Rattle.jl_program.specs.Prelude.{prelude_functions}
use Rattle.jl_program.specs.Scope.{all_types}
use Rattle.jl_program.specs.Text.{type_names, function_name}
use Rattle.jl_program.specs.Valid.{IsValid, is_named}
use Rattle.jl_program.specs.ValidValue.{fields_of}
use Rattle.jl_report.specs.HistoryText.{newline}
use Rattle.jl_history.specs.Form.{lacks}
use Rattle.jl_history.specs.Fields.{space}
use Rattle.jl_history.proofs.LineTexts.{IsLine, AreLines, plain_line, lines_append, is_inline, both}

-- ---- identifiers

-- a byte of ASCII that no identifier has
pub record IsNoLetter (mark : ℕ) : Type 0 where
  pub low : mark < 128
  pub stops : continues_name mark ≡ false

low_stops : (n : ℕ) → n < 128 → is_xid_continue n ≡ false → (n == 95) ≡ false → continues_name n ≡ false
low_stops n l h k = ap (λ b. b || (n == 95)) h ∙ k

newline_stops : IsNoLetter newline
newline_stops = record { low = omega arith; stops = low_stops newline (omega arith) (is_xid_continue-ascii newline (omega arith)) refl }

space_stops : IsNoLetter space
space_stops = record { low = omega arith; stops = low_stops space (omega arith) (is_xid_continue-ascii space (omega arith)) refl }

start_continues : (c : ℕ) → starts_name c ≡ true → continues_name c ≡ true
start_continues c h = by (is_xid_start c) refl h
  where
    any_of : (a b : Bool) → b ≡ true → a || b ≡ true
    any_of true b k = refl
    any_of false b k = k

    by : (b : Bool) → is_xid_start c ≡ b → b || (c == 95) ≡ true → continues_name c ≡ true
    by true e k = ap (λ z. z || (c == 95)) (is_xid_start-is_xid_continue c e)
    by false e k = any_of (is_xid_continue c) (c == 95) k

module _ (mark : ℕ) (m : IsNoLetter mark) where
  other : (c : ℕ) → continues_name c ≡ true → nat_eq c mark ≡ false
  other c h = by (nat_eq c mark) refl
    where
      by : (t : Bool) → nat_eq c mark ≡ t → nat_eq c mark ≡ false
      by true e =
          let is : c ≡ mark = grind (arith, e) in
          let k : continues_name mark ≡ true = subst (λ n. continues_name n ≡ true) is h in
          absurd (let f : true ≡ false = sym k ∙ m.stops in cc)
      by false e = e

  all_pass : (cs : List ℕ) → list_all continues_name cs ≡ true → NonePass (λ c. nat_eq c mark) cs
  all_pass [] h = tt
  all_pass (c ∷ cs) h = let p = both (continues_name c) (list_all continues_name cs) h in (other c p.0, all_pass cs p.1)

  word_passes : (cs : List ℕ) → is_word cs ≡ true → NonePass (λ c. nat_eq c mark) cs
  word_passes [] h = tt
  word_passes (c ∷ cs) h = let p = both (starts_name c) (list_all continues_name cs) h in (other c (start_continues c p.0), all_pass cs p.1)

  lacks_by : (w : List ℕ) → ((i : ℕ) → i < length w → nat_eq (get_or w i 0) mark ≡ false) → lacks mark w ≡ true
  lacks_by [] h = refl
  lacks_by (c ∷ cs) h = ap (λ b. not b && lacks mark cs) (h 0 (omega arith)) ∙ lacks_by cs (λ i l. h (suc i) (omega (arith, l)))

  pub identifier_lacks : (w : List ℕ) → is_identifier w ≡ true → lacks mark w ≡ true
  identifier_lacks w h =
      let p = both (is_utf8 w) (is_word (chars w)) h in
      let passes : NoCharPasses (λ c. nat_eq c mark) w = (chars w, encodes-chars w (IsUtf8-from_is_utf8 w p.0), word_passes (chars w) p.1) in
      lacks_by w (λ i l. by i l passes (nat_lt (get_or w i 0) 128) refl)
    where
      by : (i : ℕ) → i < length w → NoCharPasses (λ c. nat_eq c mark) w → (t : Bool) → nat_lt (get_or w i 0) 128 ≡ t → nat_eq (get_or w i 0) mark ≡ false
      by i l n true e = NoCharPasses-byte (λ c. nat_eq c mark) w i n l (grind (arith, e))
      by i l n false e = (let low : mark < 128 = m.low in grind (arith, e, low))

pub identifier_line : (w : List ℕ) → is_identifier w ≡ true → IsLine w
identifier_line w h = record { one_line = identifier_lacks newline newline_stops w h; utf8 = IsUtf8-from_is_utf8 w (both (is_utf8 w) (is_word (chars w)) h).0 }

identifier_some : (w : List ℕ) → is_identifier w ≡ true → 0 < length w
identifier_some [] h = absurd (let f : false ≡ true = sym (ap is_word chars-nil) ∙ (both (is_utf8 []) (is_word (chars [])) h).1 in cc)
identifier_some (c ∷ cs) h = omega arith

-- a name of one word
pub record IsWord (w : List ℕ) : Type 0 where
  pub line : IsLine w
  pub some : 0 < length w
  pub one_word : lacks space w ≡ true

abbrev AreWords : List (List ℕ) → Type 0
AreWords [] = Unit {0}
AreWords (w ∷ ws) = IsWord w × AreWords ws

free_word : (w : List ℕ) → is_free_name w ≡ true → IsWord w
free_word w h =
    let p = both (is_identifier w) (not (is_among w reserved_words) && not (is_among w builtin_names)) h in
    record { line = identifier_line w p.0; some = identifier_some w p.0; one_word = identifier_lacks space space_stops w p.0 }

-- ---- types

declared_lines : (ds : List Decl) → list_all is_named ds ≡ true → AreLines (map (λ (d : Decl). d.name) ds)
declared_lines [] h = tt
declared_lines (d ∷ ds) h =
    let p = both (is_named d) (list_all is_named ds) h in
    let q = both (is_free_name d.name) (list_all (λ f. is_field_name f.name) d.fields) p.0 in
    ((free_word d.name q.0).line, declared_lines ds p.1)

map_append : (xs ys : List Decl) → map (λ (d : Decl). d.name) (xs ++ ys) ≡ map (λ (d : Decl). d.name) xs ++ map (λ (d : Decl). d.name) ys
map_append [] ys = refl
map_append (x ∷ xs) ys = ap (λ z. x.name ∷ z) (map_append xs ys)

builtin_lines : AreLines (map (λ (d : Decl). d.name) builtin_types)
builtin_lines = (
  plain_line (codes "Number") refl,
  (
    plain_line (codes "Real") refl,
    (
      plain_line (codes "Integer") refl,
      (
        plain_line (codes "Signed") refl,
        (plain_line (codes "Int64") refl, (plain_line (codes "Bool") refl, (plain_line (codes "Nothing") refl, (plain_line (codes "Task") refl, tt)))),
      ),
    ),
  ),
)

pub type_lines : (P : Program) → IsValid P → AreLines (type_names P)
type_lines P v =
    subst AreLines (sym (map_append builtin_types P.decls))
    (lines_append (map (λ (d : Decl). d.name) builtin_types) (map (λ (d : Decl). d.name) P.decls) builtin_lines (declared_lines P.decls v.named))

-- ---- fields

abbrev FieldLines : Decl → Type 0
FieldLines d = AreLines (map (λ (f : Field). f.name) d.fields)

abbrev AllFieldLines : List Decl → Type 0
AllFieldLines [] = Unit {0}
AllFieldLines (d ∷ ds) = FieldLines d × AllFieldLines ds

field_lines : (fs : List Field) → list_all (λ (f : Field). is_field_name f.name) fs ≡ true → AreLines (map (λ (f : Field). f.name) fs)
field_lines [] h = tt
field_lines (f ∷ fs) h =
    let p = both (is_field_name f.name) (list_all (λ (g : Field). is_field_name g.name) fs) h in
    (identifier_line f.name (both (is_identifier f.name) (not (is_among f.name reserved_words)) p.0).0, field_lines fs p.1)

declared_fields : (ds : List Decl) → list_all is_named ds ≡ true → AllFieldLines ds
declared_fields [] h = tt
declared_fields (d ∷ ds) h =
    let p = both (is_named d) (list_all is_named ds) h in
    let q = both (is_free_name d.name) (list_all (λ (f : Field). is_field_name f.name) d.fields) p.0 in
    (field_lines d.fields q.1, declared_fields ds p.1)

fields_append : (xs ys : List Decl) → AllFieldLines xs → AllFieldLines ys → AllFieldLines (xs ++ ys)
fields_append [] ys h k = k
fields_append (x ∷ xs) ys h k = (h.0, fields_append xs ys h.1 k)

all_fields : (P : Program) → IsValid P → AllFieldLines (all_types P)
all_fields P v = fields_append builtin_types P.decls (tt, (tt, (tt, (tt, (tt, (tt, (tt, (tt, tt)))))))) (declared_fields P.decls v.named)

of_option : (o : Option Decl) → ((d : Decl) → o ≡ Some d → FieldLines d) → AreLines (map (λ (f : Field). f.name) (fields_of o))
of_option None h = tt
of_option (Some d) h = h d refl

fields_at : (ds : List Decl) (k : ℕ) (d : Decl) → AllFieldLines ds → slice_get ds k ≡ Some d → FieldLines d
fields_at [] k d h e = cc
fields_at (x ∷ xs) zero d h e = let is : x ≡ d = cc in subst FieldLines is h.0
fields_at (x ∷ xs) (suc k) d h e = fields_at xs k d h.1 e

-- the names of the fields of a type
pub names_of_fields : (P : Program) → IsValid P → (k : ℕ) → AreLines (map (λ (f : Field). f.name) (fields_of (slice_get (all_types P) k)))
names_of_fields P v k = of_option (slice_get (all_types P) k) (λ d e. fields_at (all_types P) k d (all_fields P v) e)

-- ---- functions

free_words : (ws : List (List ℕ)) → list_all is_free_name ws ≡ true → AreWords ws
free_words [] h = tt
free_words (w ∷ ws) h = let p = both (is_free_name w) (list_all is_free_name ws) h in (free_word w p.0, free_words ws p.1)

words_append : (xs ys : List (List ℕ)) → AreWords xs → AreWords ys → AreWords (xs ++ ys)
words_append [] ys h k = k
words_append (x ∷ xs) ys h k = (h.0, words_append xs ys h.1 k)

prelude_word : (w : List ℕ) → list_all is_inline w ≡ true → lacks space w ≡ true → 0 < length w → IsWord w
prelude_word w h k s = record { line = plain_line w h; some = s; one_word = k }

prelude_words : AreWords prelude_functions
prelude_words = (
  prelude_word (codes "+") refl refl (omega arith),
  (
    prelude_word (codes "-") refl refl (omega arith),
    (
      prelude_word (codes "*") refl refl (omega arith),
      (
        prelude_word (codes "div") refl refl (omega arith),
        (
          prelude_word (codes "rem") refl refl (omega arith),
          (
            prelude_word (codes "==") refl refl (omega arith),
            (
              prelude_word (codes "!=") refl refl (omega arith),
              (
                prelude_word (codes "<") refl refl (omega arith),
                (
                  prelude_word (codes "<=") refl refl (omega arith),
                  (prelude_word (codes ">") refl refl (omega arith), (prelude_word (codes ">=") refl refl (omega arith), (prelude_word (codes "!") refl refl (omega arith), tt))),
                ),
              ),
            ),
          ),
        ),
      ),
    ),
  ),
)

function_words : (P : Program) → IsValid P → AreWords P.functions
function_words P v =
    subst AreWords (take-append-drop (length prelude_functions) P.functions)
    (words_append (take (length prelude_functions) P.functions) (drop (length prelude_functions) P.functions) (subst AreWords (sym v.prelude_names) prelude_words)
    (free_words (drop (length prelude_functions) P.functions) v.names))

word_at : (ws : List (List ℕ)) → AreWords ws → (f : ℕ) → f < length ws → IsWord (get_or ws f [])
word_at [] h f l = absurd (omega (arith, l))
word_at (w ∷ ws) h zero l = h.0
word_at (w ∷ ws) h (suc f) l = word_at ws h.1 f (omega (arith, l))

-- the name of a function of the program
pub function_word : (P : Program) → IsValid P → (f : ℕ) → f < length P.functions → IsWord (function_name P f)
function_word P v f l = word_at P.functions (function_words P v) f l

all_lines : (ws : List (List ℕ)) → AreWords ws → AreLines ws
all_lines [] h = tt
all_lines (w ∷ ws) h = (h.0.line, all_lines ws h.1)

-- the names of the functions
pub function_lines : (P : Program) → IsValid P → AreLines P.functions
function_lines P v = all_lines P.functions (function_words P v)
