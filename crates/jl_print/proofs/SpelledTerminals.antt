-- Tokens that each have a spelling, and whose negative numbers stand in prefix places or directly in brackets.
use Rattle.std.proofs.Common.{◌≡◌, Bool, true, false, not, ◌&&◌, List, [], ◌∷◌, ◌++◌, refl, sym, ap, ◌∙◌, subst}
use Rattle.std.specs.List.{AllByRecursion}
use Rattle.jl_typeread.specs.declared.terminal.Terminal.{Terminal}
use Rattle.jl_typeread.specs.declared.terminal.Terminal.TheVariants as S
use Rattle.jl_grammar.specs.declared.mark.Around.{Around}
use Rattle.jl_grammar.specs.Newlines.{around_after, in_bracket}
use Rattle.jl_print.specs.Spelling.{IsSpellable, is_negative, is_prefix}
use Rattle.jl_print.proofs.Wholes.{all_inside, all-inside-append}

abbrev pub AllSpelled : List Terminal → Type 0
AllSpelled = AllByRecursion IsSpellable

pub all_two : (a b : List Terminal) → AllSpelled a → AllSpelled b → AllSpelled (a ++ b)
all_two [] b f g = g
all_two (s ∷ a) b f g = (f.0, all_two a b f.1 g)

pub all_split : (a b : List Terminal) → AllSpelled (a ++ b) → AllSpelled a × AllSpelled b
all_split [] b f = (tt, f)
all_split (s ∷ a) b f = let x = all_split a b f.1 in ((f.0, x.0), x.1)

-- ---- prefix places

-- whether the place behind these tokens is a prefix place
abbrev pub free_behind : Bool → List Terminal → Bool
free_behind free [] = free
free_behind free (s ∷ ss) = free_behind (is_prefix s) ss

-- where these forms are open, in a prefix place or not: each negative number stands in a prefix place or directly in brackets
abbrev pub Guarded : Bool → List Around → List Terminal → Type 0
Guarded free ns [] = Unit {0}
Guarded free ns (s ∷ ss) = (((is_negative s && not free) && not (in_bracket ns)) ≡ false) × Guarded (is_prefix s) (around_after s ns) ss

-- where the one is a prefix place, so is the other
abbrev pub Frees : Bool → Bool → Type 0
Frees f g = f ≡ true → g ≡ true

guarded-one : (n f g b : Bool) → Frees f g → ((n && not f) && not b) ≡ false → ((n && not g) && not b) ≡ false
guarded-one false f g b h e = refl
guarded-one true true g b h e = ap (λ x. (true && not x) && not b) (h refl)
guarded-one true false true b h e = refl
guarded-one true false false b h e = e

guarded-freed : (ss : List Terminal) (f g : Bool) (ns : List Around) → Frees f g → Guarded f ns ss → Guarded g ns ss
guarded-freed [] f g ns h e = tt
guarded-freed (s ∷ ss) f g ns h e = (guarded-one (is_negative s) f g (in_bracket ns) h e.0, e.1)

free-freed : (ss : List Terminal) (f g : Bool) → Frees f g → Frees (free_behind f ss) (free_behind g ss)
free-freed [] f g h = h
free-freed (s ∷ ss) f g h = λ e. e

pub free_append : (a b : List Terminal) (f : Bool) → free_behind f (a ++ b) ≡ free_behind (free_behind f a) b
free_append [] b f = refl
free_append (s ∷ a) b f = free_append a b (is_prefix s)

pub guarded_split : (a b : List Terminal) (f : Bool) (ns : List Around) → Guarded f ns (a ++ b) → Guarded f ns a × Guarded (free_behind f a) (all_inside ns a) b
guarded_split [] b f ns e = (tt, e)
guarded_split (s ∷ a) b f ns e = let x = guarded_split a b (is_prefix s) (around_after s ns) e.1 in ((e.0, x.0), x.1)

pub guarded_two : (a b : List Terminal) (f : Bool) (ns : List Around) → Guarded f ns a → Guarded (free_behind f a) (all_inside ns a) b → Guarded f ns (a ++ b)
guarded_two [] b f ns d e = e
guarded_two (s ∷ a) b f ns d e = (d.0, guarded_two a b (is_prefix s) (around_after s ns) d.1 e)

-- ---- the tokens that were, and the printed ones

-- the printed tokens have spellings, and negative numbers only where they may stand, where those that were have
pub record Spells (a c : List Terminal) : Type 0 where
  pub of : AllSpelled a → AllSpelled c
  pub alike : (ns : List Around) → all_inside ns a ≡ all_inside ns c
  pub frees : (f g : Bool) → Frees f g → Frees (free_behind f a) (free_behind g c)
  pub guards : (f g : Bool) (ns : List Around) → Frees f g → Guarded f ns a → Guarded g ns c

pub spells_as : (a c d : List Terminal) → d ≡ c → Spells a c → Spells a d
spells_as a c d e f = subst (Spells a) (sym e) f

pub spells_of : (a b c : List Terminal) → b ≡ a → Spells a c → Spells b c
spells_of a b c e f = subst (λ l. Spells l c) (sym e) f

pub spells_two : (a b c d : List Terminal) → Spells a c → Spells b d → Spells (a ++ b) (c ++ d)
spells_two a b c d f g = record {
  of = λ e. let x = all_split a b e in all_two c d (f.of x.0) (g.of x.1);
  alike = λ ns. all-inside-append ns a b ∙ ap (λ m. all_inside m b) (f.alike ns) ∙ g.alike (all_inside ns c) ∙ sym (all-inside-append ns c d);
  frees = λ i j h e. free_append c d j ∙ g.frees (free_behind i a) (free_behind j c) (f.frees i j h) (sym (free_append a b i) ∙ e);
  guards = λ i j ns h e.
      let x = guarded_split a b i ns e in
      guarded_two c d j ns (f.guards i j ns h x.0) (g.guards (free_behind i a) (free_behind j c) (all_inside ns c) (f.frees i j h) (subst (λ m. Guarded (free_behind i a) m b) (f.alike ns) x.1));
}

pub spells_same : (a : List Terminal) → Spells a a
spells_same a = record { of = λ e. e; alike = λ ns. refl; frees = free-freed a; guards = guarded-freed a }

pub spells_cons : {s : Terminal} {a c : List Terminal} → Spells a c → Spells (s ∷ a) (s ∷ c)
spells_cons {s} {a} {c} f = spells_two (s ∷ []) a (s ∷ []) c (spells_same (s ∷ [])) f

-- ---- lines

-- the same of forms in lines of their own, which stand in a prefix place
pub record RowSpells (a c : List Terminal) : Type 0 where
  pub of : AllSpelled a → AllSpelled c
  pub alike : (ns : List Around) → all_inside ns a ≡ all_inside ns c
  pub ends : free_behind true c ≡ true
  pub guards : (f : Bool) (ns : List Around) → Guarded f ns a → Guarded true ns c

-- the token leaves the open forms as they are
abbrev pub Passes : Terminal → Type 0
Passes s = (ns : List Around) → around_after s ns ≡ ns

pub row_as : (a c d : List Terminal) → d ≡ c → RowSpells a c → RowSpells a d
row_as a c d e f = subst (RowSpells a) (sym e) f

pub row_of : (a b c : List Terminal) → b ≡ a → RowSpells a c → RowSpells b c
row_of a b c e f = subst (λ l. RowSpells l c) (sym e) f

pub row_none : RowSpells [] []
row_none = record { of = λ e. tt; alike = λ ns. refl; ends = refl; guards = λ f ns e. tt }

-- a separator more in the text that was
pub row_sep : (a c : List Terminal) (s : Terminal) → Passes s → RowSpells a c → RowSpells (a ++ s ∷ []) c
row_sep a c s n f = record {
  of = λ e. f.of (all_split a (s ∷ []) e).0;
  alike = λ ns. all-inside-append ns a (s ∷ []) ∙ n (all_inside ns a) ∙ f.alike ns;
  ends = f.ends;
  guards = λ i ns e. f.guards i ns (guarded_split a (s ∷ []) i ns e).0;
}

-- a line more
pub row_one : (a b c d : List Terminal) → RowSpells a c → Spells b d → RowSpells (a ++ b) ((c ++ d) ++ S.Newline ∷ [])
row_one a b c d f g = record {
  of = λ e. let x = all_split a b e in all_two (c ++ d) (S.Newline ∷ []) (all_two c d (f.of x.0) (g.of x.1)) (tt, tt);
  alike = λ ns.
      all-inside-append ns a b ∙ ap (λ m. all_inside m b) (f.alike ns) ∙ g.alike (all_inside ns c) ∙ sym (all-inside-append ns c d) ∙ sym (all-inside-append ns (c ++ d) (S.Newline ∷ []));
  ends = free_append (c ++ d) (S.Newline ∷ []) true;
  guards = λ i ns e.
      let x = guarded_split a b i ns e in
      guarded_two (c ++ d) (S.Newline ∷ []) true ns
      (guarded_two c d true ns (f.guards i ns x.0) (g.guards (free_behind i a) (free_behind true c) (all_inside ns c) (λ h. f.ends) (subst (λ m. Guarded (free_behind i a) m b) (f.alike ns) x.1)))
      (refl, tt);
}

-- lines behind a newline
pub row_lead : (a c : List Terminal) → RowSpells a c → Spells a (S.Newline ∷ c)
row_lead a c f = record { of = λ e. (tt, f.of e); alike = f.alike; frees = λ i j h e. f.ends; guards = λ i j ns h e. (refl, f.guards i ns e) }

-- lines behind a newline, where a separator was
pub row_behind : (a c : List Terminal) (s : Terminal) → Passes s → RowSpells a c → Spells (s ∷ a) (S.Newline ∷ c)
row_behind a c s n f = record {
  of = λ e. (tt, f.of e.1);
  alike = λ ns. ap (λ m. all_inside m a) (n ns) ∙ f.alike ns;
  frees = λ i j h e. f.ends;
  guards = λ i j ns h e. (refl, f.guards (is_prefix s) ns (subst (λ m. Guarded (is_prefix s) m a) (n ns) e.1));
}
