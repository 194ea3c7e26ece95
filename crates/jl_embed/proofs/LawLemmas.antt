-- What a session did, by cases of how it ended.
use Rattle.std.proofs.Common.{◌≡◌, ◌∙◌, ◌↔◌, ◌⊎◌, inl, inr, ap, sym, refl, subst, arith, ℕ, ◌<◌, ◌≤◌, ℤ, Bool, Option, None, Some, List, [], ◌∷◌, length, take, append-nil}
use Rattle.jl_io.specs.Moved.{Takes}
use Rattle.jl_io.proofs.MovedLemmas.{Takes-start}
use Rattle.jl_work.specs.Owed.{IsProgram, IsFaultLine}
use Rattle.jl_work.proofs.OneProgram.{fault_apart}
use Rattle.jl_embed.specs.Requests.{lines_of}
use Rattle.jl_embed.specs.Replies.{Seen, opened, replied, HasServed, all, failed, no_memory as no_more_memory, IsWritten, wrote_all, wrote_part, wanted_memory}
use Rattle.jl_embed.specs.Sessions.{parts_of, Ending, unopened, ended, HasHeld, no_program as held_no_program, served as held_served, no_memory as held_no_memory, HasParted, no_session as parted_no_session, parted, HasClosed, usage as closed_usage, too_long as closed_too_long, not_read, not_kept, read, IsSession}
use Rattle.jl_embed.specs.Laws.{HasSession, IsRefused, usage, too_long, no_session, no_program, AreAnswered, AreBegun, IsDue, refused, answered}

-- ---- a line that was told

written_whole : (first status : ℕ) (text : List ℕ) (a b : Option (List ℕ)) (rose : Type 0) → IsWritten first text a b rose status → (rose → ⊥) → (status ≡ 6 → ⊥) → (status ≡ first) × Takes a text b
written_whole first _ text a b rose (wrote_all takes) h k = (refl, takes)
written_whole first _ text a b rose (wrote_part most takes rises) h k = absurd (h rises)
written_whole first _ text a b rose (wanted_memory most takes) h k = absurd (k refl)

-- its status is not 4, and 5 only where the sink's count rose
written_blames : (first status : ℕ) (text : List ℕ) (a b : Option (List ℕ)) (rose : Type 0) → IsWritten first text a b rose status → first < 4 → (status ≡ 4 → ⊥) × (status ≡ 5 → rose)
written_blames first _ text a b rose (wrote_all takes) l = (λ e. absurd (omega (arith, e, l)), λ e. absurd (omega (arith, e, l)))
written_blames first _ text a b rose (wrote_part most takes rises) l = (λ e. absurd (omega (arith, e)), λ e. rises)
written_blames first _ text a b rose (wanted_memory most takes) l = (λ e. absurd (omega (arith, e)), λ e. absurd (omega (arith, e)))

-- ---- bytes that are a session, or are refused

parts_same : (x y : Option (List ℕ × List ℕ)) (script requests script' requests' : List ℕ) → x ≡ y → x ≡ Some (script, requests) → y ≡ Some (script', requests') → (script ≡ script') × (requests ≡ requests')
parts_same x y script requests script' requests' e f g =
    let h : Some (script, requests) ≡ Some (script', requests') = sym f ∙ e ∙ g in (ap (λ (o : Option (List ℕ × List ℕ)). first_of o) h, ap (λ (o : Option (List ℕ × List ℕ)). second_of o) h)
  where
    first_of : Option (List ℕ × List ℕ) → List ℕ
    first_of None = []
    first_of (Some p) = p.0

    second_of : Option (List ℕ × List ℕ) → List ℕ
    second_of None = []
    second_of (Some p) = p.1

nothing_there : (x : Option (List ℕ × List ℕ)) (p : List ℕ × List ℕ) → x ≡ None → x ≡ Some p → ⊥
nothing_there x p e f = let h : None ≡ Some p = sym e ∙ f in cc

refused_apart : (words : ℕ) (bytes : List ℕ) (status : ℕ) (line script requests : List ℕ) → IsRefused words bytes status line → HasSession words bytes script requests → ⊥
refused_apart words bytes _ _ script requests (usage there) h = absurd (omega (arith, there, h.no_words))
refused_apart words bytes _ _ script requests (too_long none_ long) h = absurd (omega (arith, long, h.short))
refused_apart words bytes _ _ script requests (no_session none_ short nowhere) h = nothing_there (parts_of bytes) (script, requests) nowhere h.parts
refused_apart words bytes _ _ script requests (no_program script' requests' line none_ short parts fault) h =
    let same = parts_same (parts_of bytes) (parts_of bytes) script' requests' script requests refl parts h.parts in
    fault_apart script line (subst (λ (x : List ℕ). IsFaultLine x line) same.0 fault) h.program

refused_status : (words : ℕ) (bytes : List ℕ) (status : ℕ) (line : List ℕ) → IsRefused words bytes status line → ((status ≡ 2) × (0 < words)) ⊎ ((status ≡ 3) × (words ≡ 0))
refused_status words bytes _ _ (usage there) = inl (refl, there)
refused_status words bytes _ _ (too_long none_ long) = inr (refl, none_)
refused_status words bytes _ _ (no_session none_ short nowhere) = inr (refl, none_)
refused_status words bytes _ _ (no_program script requests line none_ short parts fault) = inr (refl, none_)

module _ (count : ℕ) (allows : ℕ → ℤ → ℤ → ℤ → Bool) (held held' : Option (List ℕ)) where
  -- ---- what is due

  due_refused : (words : ℕ) (bytes line : List ℕ) (first status : ℕ) (rose : Type 0) → IsRefused words bytes first line → IsWritten first line held held' rose status → (rose → ⊥) → (status ≡ 6 → ⊥) → IsDue count allows held held' words bytes (unopened status)
  due_refused words bytes line first status rose r w h k =
      let p = written_whole first status line held held' rose w h k in
      subst (λ (n : ℕ). IsDue count allows held held' words bytes (unopened n)) (sym p.0) (refused first line r p.1)

  due_served : (script requests : List ℕ) (status : ℕ) (t : Seen) (rose : Type 0) → HasServed count allows (opened script) (lines_of requests) held held' rose status t → (rose → ⊥) → (status ≡ 6 → ⊥) → AreAnswered count allows held held' script requests (ended t status)
  due_served script requests _ _ rose (all t out are takes) h k = record { session = t; out = out; replies = are; wrote = takes; is = refl }
  due_served script requests _ _ rose (failed served rest t out most parts are takes rises) h k = absurd (h rises)
  due_served script requests _ _ rose (no_more_memory served rest t out most parts are takes) h k = absurd (k refl)

  module _ (words : ℕ) (bytes : List ℕ) (none_ : words ≡ 0) (short : length bytes ≤ 1048576) (rose : Type 0) where
    due_held : (script requests : List ℕ) (e : Ending) → parts_of bytes ≡ Some (script, requests) → HasHeld count allows held held' rose script requests e → (rose → ⊥) → (e.status ≡ 6 → ⊥) → IsDue count allows held held' words bytes e
    due_held script requests _ parts (held_no_program line status fault w) h k = due_refused words bytes line 3 status rose (no_program script requests line none_ short parts fault) w h k
    due_held script requests _ parts (held_served status t program g) h k =
        answered script requests (ended t status) (record { no_words = none_; short = short; parts = parts; program = program }) (due_served script requests status t rose g h k)
    due_held script requests _ parts (held_no_memory same) h k = absurd (k refl)

    due_parted : (e : Ending) → HasParted count allows held held' rose bytes e → (rose → ⊥) → (e.status ≡ 6 → ⊥) → IsDue count allows held held' words bytes e
    due_parted _ (parted_no_session status nowhere w) h k = due_refused words bytes _ 3 status rose (no_session none_ short nowhere) w h k
    due_parted _ (parted script requests e parts g) h k = due_held script requests e parts g h k

  due_closed : (words : ℕ) (bytes : List ℕ) (left' : Option (List ℕ)) (source_rose rose : Type 0) (e : Ending) → HasClosed count allows held held' rose words bytes left' source_rose e → (source_rose → ⊥) → (rose → ⊥) → (e.status ≡ 6 → ⊥)
      → IsDue count allows held held' words bytes e
  due_closed words bytes left' source_rose rose _ (closed_usage status there nothing w) f h k = due_refused words bytes _ 2 status rose (usage there) w h k
  due_closed words bytes left' source_rose rose _ (closed_too_long status none_ long w) f h k = due_refused words bytes _ 3 status rose (too_long none_ long) w h k
  due_closed words bytes left' source_rose rose _ (not_read none_ same rises) f h k = absurd (f rises)
  due_closed words bytes left' source_rose rose _ (not_kept none_ short same) f h k = absurd (k refl)
  due_closed words bytes left' source_rose rose _ (read e none_ short ends g) f h k = due_parted words bytes none_ short rose e g h k

  pub complete_law : (words : ℕ) (left left' : Option (List ℕ)) (source_rose rose : Type 0) (e : Ending) → (h : IsSession words count allows left left' held held' source_rose rose e) → (source_rose → ⊥) → (rose → ⊥) → (e.status ≡ 6 → ⊥)
      → IsDue count allows held held' words h.bytes e
  complete_law words left left' source_rose rose e h f g k = due_closed words h.bytes left' source_rose rose e h.closed f g k

  -- ---- what is due, by the bytes

  answers_moved : (bytes script requests script' requests' : List ℕ) (e : Ending) → parts_of bytes ≡ Some (script', requests') → parts_of bytes ≡ Some (script, requests) → AreAnswered count allows held held' script' requests' e → AreAnswered count allows held held' script requests e
  answers_moved bytes script requests script' requests' e f g a =
      let same = parts_same (parts_of bytes) (parts_of bytes) script' requests' script requests refl f g in
      subst (λ (x : List ℕ). AreAnswered count allows held held' script x e) same.1 (subst (λ (x : List ℕ). AreAnswered count allows held held' x requests' e) same.0 a)

  pub answered_law : (words : ℕ) (bytes script requests : List ℕ) (e : Ending) → IsDue count allows held held' words bytes e → HasSession words bytes script requests → AreAnswered count allows held held' script requests e
  answered_law words bytes script requests _ (refused status line r takes) h = absurd (refused_apart words bytes status line script requests r h)
  answered_law words bytes script requests _ (answered script' requests' e has a) h = answers_moved bytes script requests script' requests' e has.parts h.parts a

  answered_status : (script requests : List ℕ) (e : Ending) → AreAnswered count allows held held' script requests e → e.status ≡ 0
  answered_status script requests e a = ap (λ (x : Ending). x.status) a.is

  usage_by : (words status : ℕ) → ((status ≡ 2) × (0 < words)) ⊎ ((status ≡ 3) × (words ≡ 0)) → (status ≡ 2) ↔ (0 < words)
  usage_by words status (inl p) = (λ _. p.1, λ _. p.0)
  usage_by words status (inr p) = (λ e. absurd (omega (arith, e, p.0)), λ l. absurd (omega (arith, l, p.1)))

  pub usage_law : (words : ℕ) (bytes : List ℕ) (e : Ending) → IsDue count allows held held' words bytes e → (e.status ≡ 2) ↔ (0 < words)
  usage_law words bytes _ (refused status line r takes) = usage_by words status (refused_status words bytes status line r)
  usage_law words bytes _ (answered script requests e has a) = (λ z. absurd (omega (arith, z, answered_status script requests e a)), λ l. absurd (omega (arith, l, has.no_words)))

  abbrev IsNoSession : ℕ → List ℕ → Type 0
  IsNoSession words bytes = (words ≡ 0) × ((script requests : List ℕ) → HasSession words bytes script requests → ⊥)

  refused_by : (words : ℕ) (bytes : List ℕ) (status : ℕ) (line : List ℕ) → IsRefused words bytes status line → ((status ≡ 2) × (0 < words)) ⊎ ((status ≡ 3) × (words ≡ 0)) → (status ≡ 3) ↔ IsNoSession words bytes
  refused_by words bytes status line r (inl p) = (λ e. absurd (omega (arith, e, p.0)), λ h. absurd (omega (arith, h.0, p.1)))
  refused_by words bytes status line r (inr p) = (λ _. (p.1, λ script requests has. refused_apart words bytes status line script requests r has), λ _. p.0)

  pub refused_law : (words : ℕ) (bytes : List ℕ) (e : Ending) → IsDue count allows held held' words bytes e → (e.status ≡ 3) ↔ IsNoSession words bytes
  refused_law words bytes _ (refused status line r takes) = refused_by words bytes status line r (refused_status words bytes status line r)
  refused_law words bytes _ (answered script requests e has a) = (λ z. absurd (omega (arith, z, answered_status script requests e a)), λ h. absurd (h.1 script requests has))

  not_zero : (words status : ℕ) → ((status ≡ 2) × (0 < words)) ⊎ ((status ≡ 3) × (words ≡ 0)) → status ≡ 0 → ⊥
  not_zero words status (inl p) z = absurd (omega (arith, z, p.0))
  not_zero words status (inr p) z = absurd (omega (arith, z, p.0))

  pub held_law : (words : ℕ) (bytes : List ℕ) (e : Ending) → IsDue count allows held held' words bytes e → (e.status ≡ 0) ↔ ((script : List ℕ) × (requests : List ℕ) × HasSession words bytes script requests)
  held_law words bytes _ (refused status line r takes) =
      (λ z. absurd (not_zero words status (refused_status words bytes status line r) z), λ h. absurd (refused_apart words bytes status line h.0 h.1 r h.2))
  held_law words bytes _ (answered script requests e has a) = (λ _. (script, requests, has), λ _. answered_status script requests e a)

  -- ---- what was begun

  abbrev Begun : List ℕ → List ℕ → Ending → Type 0
  Begun script requests e = AreBegun count allows held held' script requests e

  -- before the first request
  begun_nothing : (script requests : List ℕ) (status : ℕ) → held' ≡ held → Begun script requests (unopened status)
  begun_nothing script requests status same =
      record {
        served = [];
        rest = lines_of requests;
        session = opened script;
        out = [];
        most = 0;
        parts = refl;
        replies = replied (opened script);
        wrote = subst (λ (x : Option (List ℕ)). Takes held (take 0 []) x) (sym same) (Takes-start held []);
        is = refl;
      }

  take_all : (out : List ℕ) → take (length out) out ≡ out
  take_all [] = refl
  take_all (b ∷ out) = ap (λ (z : List ℕ). b ∷ z) (take_all out)

  begun_served : (script requests : List ℕ) (status : ℕ) (t : Seen) (rose : Type 0) → HasServed count allows (opened script) (lines_of requests) held held' rose status t → Begun script requests (ended t status)
  begun_served script requests _ _ rose (all t out are takes) =
      record {
        served = lines_of requests;
        rest = [];
        session = t;
        out = out;
        most = length out;
        parts = sym (append-nil (lines_of requests));
        replies = are;
        wrote = subst (λ (x : List ℕ). Takes held x held') (sym (take_all out)) takes;
        is = refl;
      }
  begun_served script requests _ _ rose (failed served rest t out most parts are takes rises) = record { served = served; rest = rest; session = t; out = out; most = most; parts = parts; replies = are; wrote = takes; is = refl }
  begun_served script requests _ _ rose (no_more_memory served rest t out most parts are takes) = record { served = served; rest = rest; session = t; out = out; most = most; parts = parts; replies = are; wrote = takes; is = refl }

  begun_held : (script requests : List ℕ) (rose : Type 0) (e : Ending) → IsProgram script → HasHeld count allows held held' rose script requests e → Begun script requests e
  begun_held script requests rose _ program (held_no_program line status fault w) = absurd (fault_apart script line fault program)
  begun_held script requests rose _ program (held_served status t same g) = begun_served script requests status t rose g
  begun_held script requests rose _ program (held_no_memory same) = begun_nothing script requests 6 same

  begun_moved : (bytes script requests script' requests' : List ℕ) (rose : Type 0) (e : Ending) → parts_of bytes ≡ Some (script', requests') → parts_of bytes ≡ Some (script, requests) → HasHeld count allows held held' rose script' requests' e
      → HasHeld count allows held held' rose script requests e
  begun_moved bytes script requests script' requests' rose e f g a =
      let same = parts_same (parts_of bytes) (parts_of bytes) script' requests' script requests refl f g in
      subst (λ (x : List ℕ). HasHeld count allows held held' rose script x e) same.1 (subst (λ (x : List ℕ). HasHeld count allows held held' rose x requests' e) same.0 a)

  begun_parted : (words : ℕ) (bytes script requests : List ℕ) (rose : Type 0) (e : Ending) → HasSession words bytes script requests → HasParted count allows held held' rose bytes e → Begun script requests e
  begun_parted words bytes script requests rose _ has (parted_no_session status nowhere w) = absurd (nothing_there (parts_of bytes) (script, requests) nowhere has.parts)
  begun_parted words bytes script requests rose _ has (parted script' requests' e parts g) = begun_held script requests rose e has.program (begun_moved bytes script requests script' requests' rose e parts has.parts g)

  begun_closed : (words : ℕ) (bytes : List ℕ) (left' : Option (List ℕ)) (source_rose rose : Type 0) (script requests : List ℕ) (e : Ending) → HasClosed count allows held held' rose words bytes left' source_rose e → HasSession words bytes script requests → (e.status ≡ 4 → ⊥)
      → Begun script requests e
  begun_closed words bytes left' source_rose rose script requests _ (closed_usage status there nothing w) has k = absurd (omega (arith, there, has.no_words))
  begun_closed words bytes left' source_rose rose script requests _ (closed_too_long status none_ long w) has k = absurd (omega (arith, long, has.short))
  begun_closed words bytes left' source_rose rose script requests _ (not_read none_ same rises) has k = absurd (k refl)
  begun_closed words bytes left' source_rose rose script requests _ (not_kept none_ short same) has k = begun_nothing script requests 6 same
  begun_closed words bytes left' source_rose rose script requests _ (read e none_ short ends g) has k = begun_parted words bytes script requests rose e has g

  pub begun_law : (words : ℕ) (left left' : Option (List ℕ)) (source_rose rose : Type 0) (script requests : List ℕ) (e : Ending) → (h : IsSession words count allows left left' held held' source_rose rose e) → HasSession words h.bytes script requests → (e.status ≡ 4 → ⊥)
      → Begun script requests e
  begun_law words left left' source_rose rose script requests e h has k = begun_closed words h.bytes left' source_rose rose script requests e h.closed has k

  -- ---- what a fault is blamed on

  abbrev Blames : Type 0 → ℕ → Type 0
  Blames rose status = (status ≡ 4 → ⊥) × (status ≡ 5 → rose)

  six_blames : (rose : Type 0) → Blames rose 6
  six_blames rose = (λ e. absurd (omega (arith, e)), λ e. absurd (omega (arith, e)))

  served_blames : (script requests : List ℕ) (status : ℕ) (t : Seen) (rose : Type 0) → HasServed count allows (opened script) (lines_of requests) held held' rose status t → Blames rose status
  served_blames script requests _ _ rose (all t out are takes) = (λ e. absurd (omega (arith, e)), λ e. absurd (omega (arith, e)))
  served_blames script requests _ _ rose (failed served rest t out most parts are takes rises) = (λ e. absurd (omega (arith, e)), λ e. rises)
  served_blames script requests _ _ rose (no_more_memory served rest t out most parts are takes) = six_blames rose

  held_blames : (script requests : List ℕ) (rose : Type 0) (e : Ending) → HasHeld count allows held held' rose script requests e → Blames rose e.status
  held_blames script requests rose _ (held_no_program line status fault w) = written_blames 3 status line held held' rose w (omega arith)
  held_blames script requests rose _ (held_served status t program g) = served_blames script requests status t rose g
  held_blames script requests rose _ (held_no_memory same) = six_blames rose

  parted_blames : (bytes : List ℕ) (rose : Type 0) (e : Ending) → HasParted count allows held held' rose bytes e → Blames rose e.status
  parted_blames bytes rose _ (parted_no_session status nowhere w) = written_blames 3 status _ held held' rose w (omega arith)
  parted_blames bytes rose _ (parted script requests e parts g) = held_blames script requests rose e g

  abbrev IsUnread : Type 0 → Ending → Type 0
  IsUnread source_rose e = source_rose × (held' ≡ held) × (e ≡ unopened 4)

  closed_blames : (words : ℕ) (bytes : List ℕ) (left' : Option (List ℕ)) (source_rose rose : Type 0) (e : Ending) → HasClosed count allows held held' rose words bytes left' source_rose e → (e.status ≡ 4 → IsUnread source_rose e) × (e.status ≡ 5 → rose)
  closed_blames words bytes left' source_rose rose _ (closed_usage status there nothing w) = let p = written_blames 2 status _ held held' rose w (omega arith) in (λ z. absurd (p.0 z), p.1)
  closed_blames words bytes left' source_rose rose _ (closed_too_long status none_ long w) = let p = written_blames 3 status _ held held' rose w (omega arith) in (λ z. absurd (p.0 z), p.1)
  closed_blames words bytes left' source_rose rose _ (not_read none_ same rises) = (λ _. (rises, same, refl), λ e. absurd (omega (arith, e)))
  closed_blames words bytes left' source_rose rose _ (not_kept none_ short same) = let p = six_blames rose in (λ z. absurd (p.0 z), p.1)
  closed_blames words bytes left' source_rose rose _ (read e none_ short ends g) = let p = parted_blames bytes rose e g in (λ z. absurd (p.0 z), p.1)

  pub unread_law : (words : ℕ) (left left' : Option (List ℕ)) (source_rose rose : Type 0) (e : Ending) → IsSession words count allows left left' held held' source_rose rose e → e.status ≡ 4 → IsUnread source_rose e
  unread_law words left left' source_rose rose e h z = (closed_blames words h.bytes left' source_rose rose e h.closed).0 z

  pub unwritten_law : (words : ℕ) (left left' : Option (List ℕ)) (source_rose rose : Type 0) (e : Ending) → IsSession words count allows left left' held held' source_rose rose e → e.status ≡ 5 → rose
  unwritten_law words left left' source_rose rose e h z = (closed_blames words h.bytes left' source_rose rose e h.closed).1 z
