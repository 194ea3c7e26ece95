-- The first word names the command, and what `clap` makes of the others is what the command's own level makes of them.
use Rattle.std.proofs.Common.{◌≡◌, ◌∙◌, ap, sym, subst, refl, arith, false, codes, List, [], ◌∷◌, ◌++◌, map, Option, None, Some, append-nil, append_assoc}
use Rattle.std.specs.Prelude.{fold, is_some}
use Rattle.clap.specs.Walk.{Text, Held, Walk, Names, idle, walked, walk_from, nothing_held, settled, finished, rows_after}
use Rattle.clap.specs.Faults.{turn_fault, walk_fault, settle_fault, defaults_fault, check_fault, level_fault, entered_fault, fault_of}
use Rattle.clap.specs.Kinds.{Kinds, or_else}
use Rattle.clap.specs.Simple.{App, built, names_of, entered, subcommand_of}
use Rattle.clap.proofs.OnLiterals.{clap_on_literals}
use Rattle.jl_command.specs.declared.commands.Verb.{Verb}
use Rattle.jl_command.specs.declared.commands.Verb.TheVariants as V
use Rattle.jl_command.specs.App.{jl_app}
use Rattle.jl_command.specs.Rule.{Kind, bare, optioned, numbered, asked, kind_of, form_of, uses_of, wanted}
use Rattle.jl_command.proofs.Walks.{sub, level_is, or_nil, between, ends, whole, state}
use Rattle.jl_command.proofs.Tells.{Told, AreKnown, IsSound, in_bare, in_optioned, one_wanted, two_wanted, tells}

abbrev pub word_of : Verb → Text
word_of V.Check = codes "check"
word_of V.Replay = codes "replay"
word_of V.Run = codes "run"
word_of V.Trace = codes "trace"
word_of V.Ambiguous = codes "ambiguous"
word_of V.Gen = codes "gen"
word_of V.Which = codes "which"

abbrev whole_app : App
whole_app = built jl_app

abbrev names : Names
names = names_of whole_app

-- the walk has met a command, and these words after it
abbrev stopped_at : Text → List Text → Walk
stopped_at n ws = record { held = nothing_held; waiting = idle; position = 1; is_trailing = false; stopped = Some (n, ws) }

stop_fold : (n : Text) (met ws : List Text) → fold (walked whole_app.top.rules names) (stopped_at n met) ws ≡ stopped_at n (met ++ ws)
unfolding clap_on_literals
stop_fold n met [] = ap (stopped_at n) (sym (append-nil met))
stop_fold n met (x ∷ xs) = stop_fold n (met ++ x ∷ []) xs ∙ ap (stopped_at n) (append_assoc met (x ∷ []) xs)

stop_fault : (n : Text) (met ws : List Text) → walk_fault whole_app.top names (stopped_at n met) ws ≡ []
unfolding clap_on_literals
stop_fault n met [] = refl
stop_fault n met (x ∷ xs) = stop_fault n (met ++ x ∷ []) xs

first_walk : (v : Verb) → walked whole_app.top.rules names (walk_from nothing_held) (word_of v) ≡ stopped_at (word_of v) []
unfolding clap_on_literals
first_walk V.Check = refl
first_walk V.Replay = refl
first_walk V.Run = refl
first_walk V.Trace = refl
first_walk V.Ambiguous = refl
first_walk V.Gen = refl
first_walk V.Which = refl

first_fault : (v : Verb) → turn_fault whole_app.top names (walk_from nothing_held) (word_of v) ≡ []
unfolding clap_on_literals
first_fault V.Check = refl
first_fault V.Replay = refl
first_fault V.Run = refl
first_fault V.Trace = refl
first_fault V.Ambiguous = refl
first_fault V.Gen = refl
first_fault V.Which = refl

abbrev walk_over : Verb → List Text → Walk
walk_over v ws = fold (walked whole_app.top.rules names) (walk_from nothing_held) (word_of v ∷ ws)

walk_is : (v : Verb) (ws : List Text) → walk_over v ws ≡ stopped_at (word_of v) ws
walk_is v ws = ap (λ w. fold (walked whole_app.top.rules names) w ws) (first_walk v) ∙ stop_fold (word_of v) [] ws

walk_faultless : (v : Verb) (ws : List Text) → walk_fault whole_app.top names (walk_from nothing_held) (word_of v ∷ ws) ≡ []
unfolding clap_on_literals
walk_faultless v ws =
    ap (λ z. or_else z (walk_fault whole_app.top names (walked whole_app.top.rules names (walk_from nothing_held) (word_of v)) ws)) (first_fault v)
    ∙ ap (λ w. walk_fault whole_app.top names w ws) (first_walk v)
    ∙ stop_fault (word_of v) [] ws

-- what the whole is, by where the walk stopped, what it held and where it failed
abbrev level : Option (Text × List Text) → Held → Kinds → Kinds
level stop end fault =
    or_else fault
    (or_else (entered_fault whole_app stop)
    (or_else (settle_fault whole_app.top.rules false end)
    (or_else (defaults_fault (settled whole_app.top.rules end).rows whole_app.top.rules) (check_fault whole_app.top (finished whole_app.top.rules end) (is_some (entered whole_app stop))))))

level_below : (v : Verb) (ws : List Text) → level (Some (word_of v, ws)) nothing_held [] ≡ or_else (level_fault (sub (kind_of v) (word_of v)) [] nothing_held ws false []) []
unfolding clap_on_literals
level_below V.Check ws = refl
level_below V.Replay ws = refl
level_below V.Run ws = refl
level_below V.Trace ws = refl
level_below V.Ambiguous ws = refl
level_below V.Gen ws = refl
level_below V.Which ws = refl

fault_is : (v : Verb) (ws : List Text) → fault_of jl_app (word_of v ∷ ws) ≡ level_fault (sub (kind_of v) (word_of v)) [] nothing_held ws false []
fault_is v ws =
    ap (λ z. level (walk_over v ws).stopped (walk_over v ws).held z) (walk_faultless v ws)
    ∙ ap (λ (w : Walk). level w.stopped w.held []) (walk_is v ws)
    ∙ level_below v ws
    ∙ or_nil (level_fault (sub (kind_of v) (word_of v)) [] nothing_held ws false [])

entered_is : (v : Verb) (ws : List Text) → entered whole_app (Some (word_of v, ws)) ≡ Some (word_of v, rows_after (sub (kind_of v) (word_of v)).rules [] ws)
entered_is V.Check ws = refl
entered_is V.Replay ws = refl
entered_is V.Run ws = refl
entered_is V.Trace ws = refl
entered_is V.Ambiguous ws = refl
entered_is V.Gen ws = refl
entered_is V.Which ws = refl

pub rows_are : (v : Verb) (ws : List Text) → subcommand_of jl_app (word_of v ∷ ws) ≡ Some (word_of v, rows_after (sub (kind_of v) (word_of v)).rules [] ws)
rows_are v ws = ap (λ (w : Walk). entered whole_app w.stopped) (walk_is v ws) ∙ entered_is v ws

ends_is : (k : Kind) (name : Text) (ws : List Text) → rows_after (sub k name).rules [] ws ≡ ends name k (state 1 (between [] None)) ws
ends_is bare name ws = refl
ends_is optioned name ws = refl
ends_is numbered name ws = refl
ends_is asked name ws = refl

-- what is told of words of known forms
pub told : (v : Verb) (ws : List Text) → AreKnown (map form_of ws) → Told (kind_of v) [] (uses_of (kind_of v) ws) (fault_of jl_app (word_of v ∷ ws)) (rows_after (sub (kind_of v) (word_of v)).rules [] ws)
told v ws h =
    subst (λ z. Told (kind_of v) [] (uses_of (kind_of v) ws) z (rows_after (sub (kind_of v) (word_of v)).rules [] ws)) (sym (fault_is v ws ∙ level_is (word_of v) (kind_of v) ws))
    (subst (λ z. Told (kind_of v) [] (uses_of (kind_of v) ws) (whole (word_of v) (kind_of v) (state 1 (between [] None)) ws) z) (sym (ends_is (kind_of v) (word_of v) ws))
    (tells (word_of v) (kind_of v) ws h 1 (wanted (kind_of v)) (between [] None) (sound (kind_of v))))
  where
    sound : (k : Kind) → IsSound k 1 (wanted k) (between [] None)
    sound bare = (tt, in_bare [], (omega arith, omega arith))
    sound optioned = (tt, in_optioned [], (omega arith, omega arith))
    sound numbered = (tt, one_wanted [] refl, (omega arith, omega arith))
    sound asked = (tt, two_wanted [] refl refl, (omega arith, omega arith))
