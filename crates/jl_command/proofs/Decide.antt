-- What the words are, from what `clap` makes of them.
use Rattle.std.proofs.Common.{◌≡◌, ◌∙◌, ap, sym, subst, refl, ℕ, Bool, true, false, ◌&&◌, cond, codes, List, [], ◌∷◌, map, drop, Option, None, Some, Result, Ok, Err, IfOk, option_map, inl, inr}
use Rattle.std.specs.Prelude.{◌↔◌, ◌⊎◌, bytes_eq, MatchBool, MatchResult, IfErr}
use Rattle.std.specs.Borrow.{Bor}
use Rattle.clap.specs.Walk.{Text, Row, first_of, rows_after, rows_of}
use Rattle.clap.specs.Matches.{first_value}
use Rattle.clap.specs.declared.parser.matches.Found.{Found}
use Rattle.clap.proofs.WalkLemmas.{first_value-rows}
use Rattle.clap.specs.Faults.{fault_of, is_simple_and_free}
use Rattle.clap.specs.Kinds.{Kinds, IsAmong}
use Rattle.clap.specs.Simple.{App, matches_of, subcommand_of, is_simple}
use Rattle.clap.specs.declared.error.kind.ErrorKind.{ErrorKind}
use Rattle.clap.specs.declared.error.kind.ErrorKind.TheVariants.{OutOfMemory}
use Rattle.clap.proofs.OnLiterals.{clap_on_literals}
use Rattle.jl_command.specs.declared.commands.Command.{Command}
use Rattle.jl_command.specs.declared.read.WordsFault.{WordsFault}
use Rattle.jl_command.specs.declared.read.WordsFault.TheVariants.{NoCommand, Memory}
use Rattle.jl_command.specs.declared.commands.Verb.{Verb}
use Rattle.jl_command.specs.declared.commands.Verb.TheVariants as V
use Rattle.jl_command.specs.App.{jl_app, made_by}
use Rattle.jl_command.specs.Texts.{texts}
use Rattle.jl_command.specs.Rule.{Name, threads, fuel, first, second, Form, flag, assigned, plain, other, Use, kind_of, form_of, is_known, add, uses_in, uses_of, wanted, fits, value_of, make, made, made_from, verb_of, first_verb, are_known, opening, command_of, same}
use Rattle.jl_command.proofs.WordForms.{same_text}
use Rattle.jl_command.proofs.Walks.{id_of, rows, sub, Bad, same_ids}
use Rattle.jl_command.proofs.Tells.{Told, AreKnown, IsKnown}
use Rattle.jl_command.proofs.Top.{word_of, told, rows_are}

-- the command line is one whose matches are told
pub free : is_simple_and_free jl_app ≡ true
unfolding clap_on_literals
free = refl

pub simple : is_simple jl_app ≡ true
unfolding clap_on_literals
simple = refl

-- what is told of a command line holds of this one
pub is_faultless : (a : App) (ws : List Text) → a ≡ jl_app → (is_simple_and_free a ≡ true → fault_of a ws ≡ []) → fault_of jl_app ws ≡ []
is_faultless a ws e h = let k : is_simple_and_free jl_app ≡ true → fault_of jl_app ws ≡ [] = subst (λ (x : App). is_simple_and_free x ≡ true → fault_of x ws ≡ []) e h in k free

pub rows_found : (a : App) (ws : List Text) (rs : List Row) (r : Option (Text × List Row)) → a ≡ jl_app → (is_simple a ≡ true → (rs ≡ matches_of a ws) × (r ≡ subcommand_of a ws)) → r ≡ subcommand_of jl_app ws
rows_found a ws rs r e h =
    let k : is_simple jl_app ≡ true → (rs ≡ matches_of jl_app ws) × (r ≡ subcommand_of jl_app ws) = subst (λ (x : App). is_simple x ≡ true → (rs ≡ matches_of x ws) × (r ≡ subcommand_of x ws)) e h in
    (k simple).1

pub is_refused : (a : App) (ws : List Text) (k : ErrorKind) (f : WordsFault) → a ≡ jl_app → (is_simple_and_free a ≡ true → (k ≡ OutOfMemory) ⊎ IsAmong k (fault_of a ws)) → (f ≡ Memory) ↔ (k ≡ OutOfMemory)
    → f ≡ NoCommand → fault_of jl_app ws ≡ [] → ⊥
is_refused a ws k f e h both none_ right =
    let told : is_simple_and_free jl_app ≡ true → (k ≡ OutOfMemory) ⊎ IsAmong k (fault_of jl_app ws) = subst (λ (x : App). is_simple_and_free x ≡ true → (k ≡ OutOfMemory) ⊎ IsAmong k (fault_of x ws)) e h in
    by (told free)
  where
    by : (k ≡ OutOfMemory) ⊎ IsAmong k (fault_of jl_app ws) → ⊥
    by (inl o) = let m : f ≡ Memory = both.1 o in let bad : NoCommand ≡ Memory = sym none_ ∙ m in cc
    by (inr i) = subst (IsAmong k) right i

pub rest_texts : (ws : List (Bor (List ℕ))) → texts (drop 1 ws) ≡ drop 1 (texts ws)
rest_texts [] = refl
rest_texts (w ∷ ws) = refl

-- ---- what is found

first_is : (n : Name) (us : List Use) → first_of (id_of n) (rows us) ≡ value_of n us
first_is n [] = refl
first_is n (u ∷ us) = by (bytes_eq (id_of u.name) (id_of n)) (same n u.name) (same_ids n u.name) refl (first_is n us)
  where
    by : (b c : Bool) → b ≡ c → bytes_eq (id_of u.name) (id_of n) ≡ b → first_of (id_of n) (rows us) ≡ value_of n us → first_of (id_of n) (rows (u ∷ us)) ≡ cond c (Some u.value) (value_of n us)
    by true true e q h = rw q refl
    by false false e q h = rw q h
    by true false e q h = cc
    by false true e q h = cc

-- ---- words that may not stand where they do

unknown : (waiting : Option Name) (ms : List Name) (ws : List Text) → are_known ws ≡ false → uses_in waiting (map form_of ws) ms ≡ None
unknown waiting ms [] h = (let bad : true ≡ false = h in cc)
unknown waiting ms (w ∷ ws) h = by waiting ms (form_of w) h (λ o ns k. unknown o ns ws k)
  where
    by : (waiting : Option Name) (ms : List Name) (f : Form) → is_known f && are_known ws ≡ false → ((o : Option Name) (ns : List Name) → are_known ws ≡ false → uses_in o (map form_of ws) ns ≡ None)
        → uses_in waiting (f ∷ map form_of ws) ms ≡ None
    by None ms (flag n) h rec = rec (Some n) ms h
    by None ms (assigned n v) h rec = ap (add n v) (rec None ms h)
    by None [] (plain v) h rec = refl
    by None (m ∷ ms) (plain v) h rec = ap (add m v) (rec None ms h)
    by None ms other h rec = refl
    by (Some n) ms (flag m) h rec = refl
    by (Some n) ms (assigned m v) h rec = refl
    by (Some n) ms (plain v) h rec = ap (add n v) (rec None ms h)
    by (Some n) ms other h rec = refl

known : (ws : List Text) → are_known ws ≡ true → AreKnown (map form_of ws)
known [] h = tt
known (w ∷ ws) h = by (form_of w) h (known ws)
  where
    by : (f : Form) → is_known f && are_known ws ≡ true → (are_known ws ≡ true → AreKnown (map form_of ws)) → IsKnown f × AreKnown (map form_of ws)
    by (flag n) h k = (tt, k h)
    by (assigned n v) h k = (tt, k h)
    by (plain v) h k = (tt, k h)
    by other h k = (let bad : false ≡ true = h in cc)

-- ---- the first word

first_word : (w : Text) (v : Verb) → verb_of w ≡ Some v → w ≡ word_of v
first_word w v h = one (bytes_eq w (codes "check")) refl h
  where
    seven : (b : Bool) → bytes_eq w (codes "which") ≡ b → cond b (Some V.Which) None ≡ Some v → w ≡ word_of v
    seven true e h = (let q : V.Which ≡ v = cc in same_text w (codes "which") e ∙ ap word_of q)
    seven false e h = cc

    six : (b : Bool) → bytes_eq w (codes "gen") ≡ b → cond b (Some V.Gen) (cond (bytes_eq w (codes "which")) (Some V.Which) None) ≡ Some v → w ≡ word_of v
    six true e h = (let q : V.Gen ≡ v = cc in same_text w (codes "gen") e ∙ ap word_of q)
    six false e h = seven (bytes_eq w (codes "which")) refl h

    five : (b : Bool) → bytes_eq w (codes "ambiguous") ≡ b → cond b (Some V.Ambiguous) (cond (bytes_eq w (codes "gen")) (Some V.Gen) (cond (bytes_eq w (codes "which")) (Some V.Which) None)) ≡ Some v → w ≡ word_of v
    five true e h = (let q : V.Ambiguous ≡ v = cc in same_text w (codes "ambiguous") e ∙ ap word_of q)
    five false e h = six (bytes_eq w (codes "gen")) refl h

    four : (b : Bool) → bytes_eq w (codes "trace") ≡ b → cond b (Some V.Trace) (cond (bytes_eq w (codes "ambiguous")) (Some V.Ambiguous) (cond (bytes_eq w (codes "gen")) (Some V.Gen) (cond (bytes_eq w (codes "which")) (Some V.Which) None))) ≡ Some v → w ≡ word_of v
    four true e h = (let q : V.Trace ≡ v = cc in same_text w (codes "trace") e ∙ ap word_of q)
    four false e h = five (bytes_eq w (codes "ambiguous")) refl h

    three : (b : Bool) → bytes_eq w (codes "run") ≡ b → cond b (Some V.Run) (cond (bytes_eq w (codes "trace")) (Some V.Trace) (cond (bytes_eq w (codes "ambiguous")) (Some V.Ambiguous) (cond (bytes_eq w (codes "gen")) (Some V.Gen) (cond (bytes_eq w (codes "which")) (Some V.Which) None)))) ≡ Some v → w ≡ word_of v
    three true e h = (let q : V.Run ≡ v = cc in same_text w (codes "run") e ∙ ap word_of q)
    three false e h = four (bytes_eq w (codes "trace")) refl h

    two : (b : Bool) → bytes_eq w (codes "replay") ≡ b → cond b (Some V.Replay) (cond (bytes_eq w (codes "run")) (Some V.Run) (cond (bytes_eq w (codes "trace")) (Some V.Trace) (cond (bytes_eq w (codes "ambiguous")) (Some V.Ambiguous) (cond (bytes_eq w (codes "gen")) (Some V.Gen) (cond (bytes_eq w (codes "which")) (Some V.Which) None))))) ≡ Some v → w ≡ word_of v
    two true e h = (let q : V.Replay ≡ v = cc in same_text w (codes "replay") e ∙ ap word_of q)
    two false e h = three (bytes_eq w (codes "run")) refl h

    one : (b : Bool) → bytes_eq w (codes "check") ≡ b → cond b (Some V.Check) (cond (bytes_eq w (codes "replay")) (Some V.Replay) (cond (bytes_eq w (codes "run")) (Some V.Run) (cond (bytes_eq w (codes "trace")) (Some V.Trace) (cond (bytes_eq w (codes "ambiguous")) (Some V.Ambiguous) (cond (bytes_eq w (codes "gen")) (Some V.Gen) (cond (bytes_eq w (codes "which")) (Some V.Which) None)))))) ≡ Some v → w ≡ word_of v
    one true e h = (let q : V.Check ≡ v = cc in same_text w (codes "check") e ∙ ap word_of q)
    one false e h = two (bytes_eq w (codes "replay")) refl h

-- ---- the answer

-- the rows are the uses, so the values that are found are those of the uses
found : (v : Verb) (us : List Use) (r : List Row) (w : Text) → r ≡ rows us → made_by v (Some (w, r)) ≡ make v (value_of threads us) (value_of fuel us) (value_of first us) (value_of second us)
found v us r w e =
    ap (λ z. make v (first_of (codes "threads") z) (first_of (codes "fuel") z) (first_of (codes "first") z) (first_of (codes "second") z)) e
    ∙ ap (λ z. make v z (first_of (codes "fuel") (rows us)) (first_of (codes "first") (rows us)) (first_of (codes "second") (rows us))) (first_is threads us)
    ∙ ap (λ z. make v (value_of threads us) z (first_of (codes "first") (rows us)) (first_of (codes "second") (rows us))) (first_is fuel us)
    ∙ ap (λ z. make v (value_of threads us) (value_of fuel us) z (first_of (codes "second") (rows us))) (first_is first us)
    ∙ ap (λ z. make v (value_of threads us) (value_of fuel us) (value_of first us) z) (first_is second us)

decide : (v : Verb) (o : Option (List Use)) (f : Kinds) (r : List Row) (w : Text) → Told (kind_of v) [] o f r → f ≡ [] → made_by v (Some (w, r)) ≡ made v o
decide v None f r w t e = absurd (subst Bad e t)
decide v (Some us) f r w t e = by (fits (kind_of v) us) refl t
  where
    by : (b : Bool) → fits (kind_of v) us ≡ b → MatchBool b ((f ≡ []) × (r ≡ rows us)) (Bad f) → made_by v (Some (w, r)) ≡ made v (Some us)
    by true q t = found v us r w t.1 ∙ ap (λ b. cond b (make v (value_of threads us) (value_of fuel us) (value_of first us) (value_of second us)) None) (sym q)
    by false q t = absurd (subst Bad e t)

refuse : (v : Verb) (o : Option (List Use)) (f : Kinds) (r : List Row) → Told (kind_of v) [] o f r → (f ≡ [] → ⊥) → made v o ≡ None
refuse v None f r t e = refl
refuse v (Some us) f r t e = by (fits (kind_of v) us) refl t
  where
    by : (b : Bool) → fits (kind_of v) us ≡ b → MatchBool b ((f ≡ []) × (r ≡ rows us)) (Bad f) → made v (Some us) ≡ None
    by true q t = absurd (e t.0)
    by false q t = ap (λ b. cond b (make v (value_of threads us) (value_of fuel us) (value_of first us) (value_of second us)) None) q

answer_none : (ws : List Text) → first_verb ws ≡ None → command_of ws ≡ None
answer_none [] h = refl
answer_none (w ∷ ws) h = ap (λ z. made_from z ws) h

answer_unknown : (ws : List Text) → are_known (drop 1 ws) ≡ false → command_of ws ≡ None
answer_unknown [] h = refl
answer_unknown (w ∷ ws) h = by (verb_of w)
  where
    by : (o : Option Verb) → made_from o ws ≡ None
    by None = refl
    by (Some v) = ap (made v) (unknown None (wanted (kind_of v)) ws h)

answer_found : (ws : List Text) (v : Verb) → first_verb ws ≡ Some v → are_known (drop 1 ws) ≡ true → fault_of jl_app ws ≡ [] → command_of ws ≡ made_by v (subcommand_of jl_app ws)
answer_found [] v h k e = cc
answer_found (w ∷ ws) v h k e =
    let q : w ≡ word_of v = first_word w v h in
    let e' : fault_of jl_app (word_of v ∷ ws) ≡ [] = subst (λ z. fault_of jl_app (z ∷ ws) ≡ []) q e in
    ap (λ z. made_from z ws) h
    ∙ sym (decide v (uses_of (kind_of v) ws) (fault_of jl_app (word_of v ∷ ws)) (rows_after (sub (kind_of v) (word_of v)).rules [] ws) (word_of v) (told v ws (known ws k)) e')
    ∙ ap (made_by v) (sym (rows_are v ws))
    ∙ ap (λ z. made_by v (subcommand_of jl_app (z ∷ ws))) (sym q)

answer_refused : (ws : List Text) (v : Verb) → first_verb ws ≡ Some v → are_known (drop 1 ws) ≡ true → (fault_of jl_app ws ≡ [] → ⊥) → command_of ws ≡ None
answer_refused [] v h k e = cc
answer_refused (w ∷ ws) v h k e =
    let q : w ≡ word_of v = first_word w v h in
    let e' : fault_of jl_app (word_of v ∷ ws) ≡ [] → ⊥ = subst (λ z. fault_of jl_app (z ∷ ws) ≡ [] → ⊥) q e in
    ap (λ z. made_from z ws) h
    ∙ refuse v (uses_of (kind_of v) ws) (fault_of jl_app (word_of v ∷ ws)) (rows_after (sub (kind_of v) (word_of v)).rules [] ws) (told v ws (known ws k)) e'

-- ---- words that open rightly

opened : (ws : List Text) (v : Verb) → opening ws ≡ Some v → (first_verb ws ≡ Some v) × (are_known (drop 1 ws) ≡ true)
opened ws v h = by (are_known (drop 1 ws)) refl h
  where
    by : (b : Bool) → are_known (drop 1 ws) ≡ b → cond b (first_verb ws) None ≡ Some v → (first_verb ws ≡ Some v) × (are_known (drop 1 ws) ≡ true)
    by true e h = (h, e)
    by false e h = cc

pub opened_none : (ws : List Text) → opening ws ≡ None → command_of ws ≡ None
opened_none ws h = by (are_known (drop 1 ws)) refl h
  where
    by : (b : Bool) → are_known (drop 1 ws) ≡ b → cond b (first_verb ws) None ≡ None → command_of ws ≡ None
    by true e h = answer_none ws h
    by false e h = answer_unknown ws e

pub opened_refused : (ws : List Text) (v : Verb) → opening ws ≡ Some v → (fault_of jl_app ws ≡ [] → ⊥) → command_of ws ≡ None
opened_refused ws v h e = let o = opened ws v h in answer_refused ws v o.0 o.1 e

opened_found : (ws : List Text) (v : Verb) → opening ws ≡ Some v → fault_of jl_app ws ≡ [] → command_of ws ≡ made_by v (subcommand_of jl_app ws)
opened_found ws v h e = let o = opened ws v h in answer_found ws v o.0 o.1 e

-- what is answered is the rule's
abbrev pub Answered : Result Command WordsFault → Option Command → Type 0
Answered r o = MatchResult r (λ c. o ≡ Some c) (λ e. (e ≡ NoCommand) → o ≡ None)

pub answered_ok : (ws : List Text) (v : Verb) (found : Option (Text × List Row)) (r : Result Command WordsFault) → opening ws ≡ Some v → fault_of jl_app ws ≡ [] → found ≡ subcommand_of jl_app ws
    → Answered r (made_by v found) → IfOk r (λ c. command_of ws ≡ Some c)
answered_ok ws v found (Ok c) h e q a = opened_found ws v h e ∙ ap (made_by v) (sym q) ∙ a
answered_ok ws v found (Err f) h e q a = tt

pub answered_err : (ws : List Text) (v : Verb) (found : Option (Text × List Row)) (r : Result Command WordsFault) → opening ws ≡ Some v → fault_of jl_app ws ≡ [] → found ≡ subcommand_of jl_app ws
    → Answered r (made_by v found) → IfErr r (λ f. f ≡ NoCommand → command_of ws ≡ None)
answered_err ws v found (Ok c) h e q a = tt
answered_err ws v found (Err f) h e q a = λ n. opened_found ws v h e ∙ ap (made_by v) (sym q) ∙ a n

-- what the getters read is what the rows have
pub by_rows : (v : Verb) (f : Found) (o : Option (Text × List Row)) → Some (rows_of f) ≡ option_map (λ (p : Text × List Row). p.1) o
    → made_by v o ≡ make v (first_value f (codes "threads")) (first_value f (codes "fuel")) (first_value f (codes "first")) (first_value f (codes "second"))
by_rows v f None h = cc
by_rows v f (Some p) h =
    let e : p.1 ≡ rows_of f = cc in
    ap (λ z. make v (first_of (codes "threads") z) (first_of (codes "fuel") z) (first_of (codes "first") z) (first_of (codes "second") z)) e
    ∙ ap (λ z. make v z (first_of (codes "fuel") (rows_of f)) (first_of (codes "first") (rows_of f)) (first_of (codes "second") (rows_of f))) (sym (first_value-rows f (codes "threads")))
    ∙ ap (λ z. make v (first_value f (codes "threads")) z (first_of (codes "first") (rows_of f)) (first_of (codes "second") (rows_of f))) (sym (first_value-rows f (codes "fuel")))
    ∙ ap (λ z. make v (first_value f (codes "threads")) (first_value f (codes "fuel")) z (first_of (codes "second") (rows_of f))) (sym (first_value-rows f (codes "first")))
    ∙ ap (λ z. make v (first_value f (codes "threads")) (first_value f (codes "fuel")) (first_value f (codes "first")) z) (sym (first_value-rows f (codes "second")))
