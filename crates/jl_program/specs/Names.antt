-- Which texts are identifiers, and which of them are names that a script may give.
use Rattle.std.specs.Prelude.{ℕ, ◌==◌, Bool, true, false, ◌&&◌, ◌||◌, not, nat_le, codes, List, [], ◌∷◌}
use Rattle.std.specs.List.{list_all, list_any}
use Rattle.std.specs.Str.{chars, is_utf8}
use Rattle.unicode_ident.specs.Ident.{is_xid_start, is_xid_continue}

-- whether two texts are the same
abbrev pub same_text : List ℕ → List ℕ → Bool
same_text [] [] = true
same_text (a ∷ as_) (b ∷ bs) = (a == b) && same_text as_ bs
same_text _ _ = false

-- whether a name is one of a list
abbrev pub is_among : List ℕ → List (List ℕ) → Bool
is_among name names = list_any (same_text name) names

-- the words with a rule of their own, and those without one
abbrev pub reserved_words : List (List ℕ)
reserved_words =
    codes "abstract" ∷ codes "struct" ∷ codes "function" ∷ codes "end" ∷ codes "if" ∷ codes "elseif" ∷ codes "else"
    ∷ codes "begin" ∷ codes "quote" ∷ codes "return" ∷ codes "where" ∷ codes "true" ∷ codes "false" ∷ codes "nothing"
    ∷ codes "isa" ∷ codes "for" ∷ codes "while" ∷ codes "try" ∷ codes "catch" ∷ codes "finally" ∷ codes "let" ∷ codes "do"
    ∷ codes "mutable" ∷ codes "primitive" ∷ codes "module" ∷ codes "baremodule" ∷ codes "import" ∷ codes "using"
    ∷ codes "export" ∷ codes "const" ∷ codes "global" ∷ codes "local" ∷ codes "macro" ∷ codes "break" ∷ codes "continue"
    ∷ []

-- the names that no script binds or defines
abbrev pub builtin_names : List (List ℕ)
builtin_names =
    codes "Any" ∷ codes "Union" ∷ codes "Tuple" ∷ codes "Number" ∷ codes "Real" ∷ codes "Integer" ∷ codes "Signed"
    ∷ codes "Int64" ∷ codes "Int" ∷ codes "Bool" ∷ codes "Nothing" ∷ codes "Task" ∷ codes "Base" ∷ codes "Threads"
    ∷ codes "eval" ∷ codes "fetch" ∷ codes "println" ∷ codes "print" ∷ codes "invokelatest" ∷ codes "div" ∷ codes "rem"
    ∷ []

-- no two names are the same
abbrev pub are_distinct : List (List ℕ) → Bool
are_distinct [] = true
are_distinct (name ∷ names) = not (is_among name names) && are_distinct names

-- ASCII letters and digits
abbrev pub is_lower : ℕ → Bool
is_lower c = nat_le 97 c && nat_le c 122

abbrev pub is_upper : ℕ → Bool
is_upper c = nat_le 65 c && nat_le c 90

abbrev pub is_digit : ℕ → Bool
is_digit c = nat_le 48 c && nat_le c 57

-- whether a character may begin an identifier: a start character of Unicode (XID_Start), or `_`
abbrev pub starts_name : ℕ → Bool
starts_name c = is_xid_start c || (c == 95)

-- whether a character may stand in an identifier behind its first (XID_Continue), or is `_`
abbrev pub continues_name : ℕ → Bool
continues_name c = is_xid_continue c || (c == 95)

-- whether these characters are an identifier
abbrev pub is_word : List ℕ → Bool
is_word [] = false
is_word (c ∷ cs) = starts_name c && list_all continues_name cs

-- whether these bytes are an identifier in UTF-8
abbrev pub is_identifier : List ℕ → Bool
is_identifier bytes = is_utf8 bytes && is_word (chars bytes)

-- whether a field may have this name: an identifier that is not reserved
abbrev pub is_field_name : List ℕ → Bool
is_field_name name = is_identifier name && not (is_among name reserved_words)

-- whether a script may give this name: an identifier that is neither reserved nor built-in
abbrev pub is_free_name : List ℕ → Bool
is_free_name name = is_identifier name && (not (is_among name reserved_words) && not (is_among name builtin_names))
