-- What the topmost frame has, and what is left where it is taken off.
use Rattle.std.proofs.Common.{◌≡◌, ℕ, ◌+◌, ◌-◌, ◌<◌, ◌≤◌, List, [], ◌∷◌, ◌++◌, Bool, Option, None, Some, IsSome, option_to_list, slice_get, take, drop, reverse, length, refl, sym, ap, ◌∙◌, subst, arith}
use Rattle.std.proofs.lemmas.List.{drop-append-le, length-append, take-take, length-take, reverse-append, take-append-drop, drop-take, take_at, drop_at, drop_all}
use Rattle.std.proofs.lemmas.Option.{slice_get_within}
use Rattle.jl_model.specs.declared.ty.Ty.{Ty}
use Rattle.jl_program.specs.declared.value.Value.{Value}
use Rattle.jl_task.specs.declared.point.Frame.{Frame}
use Rattle.jl_task.specs.declared.point.Frame.TheVariants as Fr
use Rattle.jl_frames.specs.declared.flat.Scope.{Scope}
use Rattle.jl_frames.specs.declared.flat.Flat.{Flat}
use Rattle.jl_frames.specs.declared.flat.Flat.TheVariants as L
use Rattle.jl_frames.specs.Held.{Held, with_scope}
use Rattle.jl_frames.specs.Popped.{Off, Gone}
use Rattle.jl_frames.specs.Split.{split, Fits, IsScope, held_of, IsHeld}

top_is : (fs : List Flat) (f : Flat) → reverse (fs ++ f ∷ []) ≡ f ∷ reverse fs
top_is fs f = reverse-append fs (f ∷ [])

-- what lies above a place and what lies above a later one
part_above : {X : Type 0} (xs : List X) (a b : ℕ) → a ≤ b → b ≤ length xs → drop a xs ≡ drop a (take b xs) ++ drop b xs
part_above xs a b le within =
    let n : a ≤ length (take b xs) = omega (arith, length-take b xs, within, le) in
    ap (drop a) (sym (take-append-drop b xs)) ∙ drop-append-le a (take b xs) (drop b xs) n

module _ (fs : List Flat) (f : Flat) (gs : List Flat) (vs ss : List Value) (ts : List Ty) (bs : List ℕ) (o : ℕ) (s : Scope) (t : ℕ) (old : Held)
    (is : gs ≡ fs ++ f ∷ []) (view : held_of gs vs ss ts bs o s t ≡ old) (whole : IsHeld gs vs ss ts bs o s t) where
  pub fits : Fits (f ∷ reverse fs) o s.kept s.types_kept t
  fits = subst (λ (hs : List Flat). Fits hs o s.kept s.types_kept t) (ap reverse is ∙ top_is fs f) whole.frames

  pub stack_is : old.stack ≡ split (f ∷ reverse fs) (take o vs) (take s.kept ss) (take s.types_kept ts) (take t bs)
  stack_is =
      sym (ap (λ (h : Held). h.stack) view)
      ∙ ap (λ (hs : List Flat). split hs (take o vs) (take s.kept ss) (take s.types_kept ts) (take t bs)) (ap reverse is ∙ top_is fs f)

-- the values that a frame kept are open again, or go
module _ (fs : List Flat) (f : Flat) (gs : List Flat) (vs ss : List Value) (ts : List Ty) (bs : List ℕ) (o : ℕ) (s : Scope) (t : ℕ) (old : Held)
    (is : gs ≡ fs ++ f ∷ []) (view : held_of gs vs ss ts bs o s t ≡ old) (whole : IsHeld gs vs ss ts bs o s t)
    (from : ℕ) (le : from ≤ o) (F : List Value → Frame)
    (layer : (ws us : List Value) (xs : List Ty) (cs : List ℕ) → split (f ∷ reverse fs) ws us xs cs ≡ F (drop from ws) ∷ split (reverse fs) (take from ws) us xs cs) where
  values_stack : old.stack ≡ F (drop from (take o vs)) ∷ split (reverse fs) (take from vs) (take s.kept ss) (take s.types_kept ts) (take t bs)
  values_stack =
      stack_is fs f gs vs ss ts bs o s t old is view whole
      ∙ layer (take o vs) (take s.kept ss) (take s.types_kept ts) (take t bs)
      ∙ ap (λ (ws : List Value). F (drop from (take o vs)) ∷ split (reverse fs) ws (take s.kept ss) (take s.types_kept ts) (take t bs)) (take-take from o vs le)

  pub values_taken : (done : List Value) × Off (F done) old.env old.bindings (done ++ old.open_values) old.open_text old (held_of fs vs ss ts bs from s t)
  values_taken = (
    drop from (take o vs),
    record {
      stack = values_stack;
      env_is = ap (λ (h : Held). h.env) view;
      bindings_are = ap (λ (h : Held). h.bindings) view;
      values_are = part_above vs from o le whole.values ∙ ap (λ (h : Held). drop from (take o vs) ++ h.open_values) view;
      text_is = ap (λ (h : Held). h.open_text) view;
    },
  )

  pub values_passed : (ws : List Value) → ws ≡ take from vs ++ drop o vs → (done : List Value) × Gone (F done) old (held_of fs ws ss ts bs from s t)
  values_passed ws e =
      let n : length (take from vs) ≡ from = omega (arith, length-take from vs, le, whole.values) in (
        drop from (take o vs),
        record {
          stack = values_stack
              ∙ ap (λ (us : List Value). F (drop from (take o vs)) ∷ split (reverse fs) us (take s.kept ss) (take s.types_kept ts) (take t bs))
              (sym (ap (take from) e ∙ take_at (take from vs) (drop o vs) from n));
          env_is = ap (λ (h : Held). h.env) view;
          bindings_are = ap (λ (h : Held). h.bindings) view;
          values_are = ap (drop from) e ∙ drop_at (take from vs) (drop o vs) from n ∙ ap (λ (h : Held). h.open_values) view;
          text_is = ap (λ (h : Held). h.open_text) view;
        },
      )

-- the text of a `print` is open again, or goes
module _ (fs : List Flat) (line : Bool) (begin : ℕ) (xs : _) (gs : List Flat) (vs ss : List Value) (ts : List Ty) (bs : List ℕ) (o : ℕ) (s : Scope) (t : ℕ) (old : Held)
    (is : gs ≡ fs ++ L.Showing line begin xs ∷ []) (view : held_of gs vs ss ts bs o s t ≡ old) (whole : IsHeld gs vs ss ts bs o s t) where
  text_le : begin ≤ t
  text_le = (fits fs (L.Showing line begin xs) gs vs ss ts bs o s t old is view whole).0

  text_stack : old.stack ≡ Fr.Showing (drop begin (take t bs)) xs.now line ∷ split (reverse fs) (take o vs) (take s.kept ss) (take s.types_kept ts) (take begin bs)
  text_stack =
      stack_is fs (L.Showing line begin xs) gs vs ss ts bs o s t old is view whole
      ∙ ap (λ (cs : List ℕ). Fr.Showing (drop begin (take t bs)) xs.now line ∷ split (reverse fs) (take o vs) (take s.kept ss) (take s.types_kept ts) cs) (take-take begin t bs text_le)

  pub text_taken : (text : List ℕ) × Off (Fr.Showing text xs.now line) old.env old.bindings old.open_values (text ++ old.open_text) old (held_of fs vs ss ts bs o s begin)
  text_taken = (
    drop begin (take t bs),
    record {
      stack = text_stack;
      env_is = ap (λ (h : Held). h.env) view;
      bindings_are = ap (λ (h : Held). h.bindings) view;
      values_are = ap (λ (h : Held). h.open_values) view;
      text_is = part_above bs begin t text_le whole.text ∙ ap (λ (h : Held). drop begin (take t bs) ++ h.open_text) view;
    },
  )

  pub text_passed : (cs : List ℕ) → cs ≡ take begin bs → (text : List ℕ) × Off (Fr.Showing text xs.now line) old.env old.bindings old.open_values [] old (held_of fs vs ss ts cs o s begin)
  text_passed cs e = (
    drop begin (take t bs),
    record {
      stack = text_stack
          ∙ ap (λ (us : List ℕ). Fr.Showing (drop begin (take t bs)) xs.now line ∷ split (reverse fs) (take o vs) (take s.kept ss) (take s.types_kept ts) us)
          (sym (ap (take begin) e ∙ take-take begin begin bs (omega arith)));
      env_is = ap (λ (h : Held). h.env) view;
      bindings_are = ap (λ (h : Held). h.bindings) view;
      values_are = ap (λ (h : Held). h.open_values) view;
      text_is = ap (drop begin) e ∙ drop_all begin (take begin bs) (omega (arith, length-take begin bs));
    },
  )

-- a block is left by a `return`, and so is an evaluated block
module _ (fs : List Flat) (gs : List Flat) (vs ss : List Value) (ts : List Ty) (bs : List ℕ) (o : ℕ) (s : Scope) (t : ℕ) (old : Held)
    (view : held_of gs vs ss ts bs o s t ≡ old) (whole : IsHeld gs vs ss ts bs o s t) where
  pub block_passed : (base kept : ℕ) → gs ≡ fs ++ L.Block base kept ∷ []
      → (env : List Value) × Gone (Fr.Block env) old (held_of fs vs ss ts bs o (record s { kept = kept }) t)
  block_passed base kept is =
      let le = (fits fs (L.Block base kept) gs vs ss ts bs o s t old is view whole).1 in (
        drop base (take s.kept ss),
        record {
          stack = stack_is fs (L.Block base kept) gs vs ss ts bs o s t old is view whole
              ∙ ap (λ (us : List Value). Fr.Block (drop base (take s.kept ss)) ∷ split (reverse fs) (take o vs) us (take s.types_kept ts) (take t bs)) (take-take kept s.kept ss le);
          env_is = ap (λ (h : Held). h.env) view;
          bindings_are = ap (λ (h : Held). h.bindings) view;
          values_are = ap (λ (h : Held). h.open_values) view;
          text_is = ap (λ (h : Held). h.open_text) view;
        },
      )

  pub evaluated_passed : (r : Scope) → gs ≡ fs ++ L.Evaluated r ∷ []
      → (env : List Value) × (bindings : List Ty) × Gone (Fr.Evaluated env bindings) old (held_of fs vs ss ts bs o (record s { kept = r.kept; types_kept = r.types_kept }) t)
  evaluated_passed r is =
      let within : IsScope r s.kept s.types_kept = (fits fs (L.Evaluated r) gs vs ss ts bs o s t old is view whole).0 in (
        drop r.base (take s.kept ss),
        drop r.types_base (take s.types_kept ts),
        record {
          stack = stack_is fs (L.Evaluated r) gs vs ss ts bs o s t old is view whole
              ∙ (λ i. Fr.Evaluated (drop r.base (take s.kept ss)) (drop r.types_base (take s.types_kept ts))
              ∷ split (reverse fs) (take o vs) (take-take r.kept s.kept ss within.kept i) (take-take r.types_kept s.types_kept ts within.types_kept i) (take t bs));
          env_is = ap (λ (h : Held). h.env) view;
          bindings_are = ap (λ (h : Held). h.bindings) view;
          values_are = ap (λ (h : Held). h.open_values) view;
          text_is = ap (λ (h : Held). h.open_text) view;
        },
      )

-- the slots from one on go, where no frame keeps any of them
pub cut_is : (fs : List Flat) (vs ss us : List Value) (ts : List Ty) (bs : List ℕ) (o : ℕ) (s : Scope) (t : ℕ) (old : Held) (slot : ℕ)
    → held_of fs vs ss ts bs o s t ≡ old → s.kept ≤ s.base + slot → us ≡ take (s.base + slot) ss
    → held_of fs vs us ts bs o s t ≡ with_scope old (take slot old.env) old.bindings
cut_is fs vs ss us ts bs o s t old slot view le e =
    ap (λ (ws : List Value). held_of fs vs ws ts bs o s t) e
    ∙ (λ i. record {
      env = drop-take s.base slot ss i;
      bindings = drop s.types_base ts;
      open_values = drop o vs;
      open_text = drop t bs;
      stack = split (reverse fs) (take o vs) (take-take s.kept (s.base + slot) ss le i) (take s.types_kept ts) (take t bs);
    })
    ∙ ap (λ (h : Held). with_scope h (take slot h.env) h.bindings) view

-- the last entry is the one that is taken off
at_last : (fs : List Flat) (f : Flat) → slice_get (fs ++ f ∷ []) (length fs) ≡ Some f
at_last [] f = refl
at_last (g ∷ fs) f = at_last fs f

pub last_off : (gs fs : List Flat) (o : Option Flat) (f : Flat) → gs ≡ fs ++ option_to_list o → (0 < length gs → IsSome o) → slice_get gs (length gs - 1) ≡ Some f → gs ≡ fs ++ f ∷ []
last_off gs fs None f e some at = let lt = slice_get_within gs (length gs - 1) f at in let no = some (omega (arith, lt)) in absurd cc
last_off gs fs (Some x) f e some at =
    let long : length gs - 1 ≡ length fs = let n = ap length e ∙ length-append fs (x ∷ []) in omega (arith, n) in
    let is : Some x ≡ Some f = sym (at_last fs x) ∙ ap (λ (hs : List Flat). slice_get hs (length fs)) (sym e) ∙ ap (slice_get gs) (sym long) ∙ at in
    let same : x ≡ f = cc in
    e ∙ ap (λ (y : Flat). fs ++ y ∷ []) same
