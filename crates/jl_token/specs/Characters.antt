-- Kinds of characters, by their codes, and the width of a text.
use Rattle.std.specs.Prelude.{ℕ, Bool, false, not, nat_lt, ◌||◌, ◌&&◌, ◌==◌, ◌-◌, if◌then◌else◌, Option, Some, None, List, [], ◌∷◌, length}
use Rattle.std.specs.Str.{encode_utf8_all}
use Rattle.unicode_ident.specs.Ident.{is_xid_start, is_xid_continue}

-- may begin an identifier: a start character of Unicode, or `_`
abbrev pub is_word_start : ℕ → Bool
is_word_start c = is_xid_start c || (c == 95)

-- may stand in an identifier behind its first character
abbrev pub is_word_part : ℕ → Bool
is_word_part c = is_xid_continue c || (c == 95)

-- a space, a tab or a carriage return
abbrev pub is_blank : ℕ → Bool
is_blank c = (c == 32) || (c == 9) || (c == 13)

-- may not stand directly behind a number: `.`, or what may begin an identifier
abbrev pub is_wrong_after_number : ℕ → Bool
is_wrong_after_number c = (c == 46) || is_word_start c

-- `=#` and `#=`
abbrev pub is_comment_end : ℕ → ℕ → Bool
is_comment_end c d = (c == 61) && (d == 35)

abbrev pub is_comment_start : ℕ → ℕ → Bool
is_comment_start c d = (c == 35) && (d == 61)

-- what the character behind a backslash stands for
abbrev pub escape : ℕ → Option ℕ
escape c =
    if c == 110 then Some 10
    else (if c == 116 then Some 9
    else (if (c == 92) || (c == 34) || (c == 36) then Some c else None))

-- the text begins with a character that passes the test
abbrev pub has_first : (ℕ → Bool) → List ℕ → Bool
has_first p [] = false
has_first p (c ∷ cs) = p c

-- how many bytes the characters take
abbrev pub width : List ℕ → ℕ
width cs = length (encode_utf8_all cs)

-- where the rest of a source of so many bytes begins: how many bytes stand before it
abbrev pub place : ℕ → List ℕ → ℕ
place bytes rest = bytes - width rest

-- the first two bytes are small letters, or what comes after those
abbrev pub may_be_reserved : List ℕ → Bool
may_be_reserved [] = false
may_be_reserved (c ∷ []) = false
may_be_reserved (c ∷ d ∷ cs) = not (nat_lt c 97) && not (nat_lt d 97)
