-- How a session ended, by cases.
use Rattle.std.proofs.Common.{◌≡◌, ◌∙◌, ap, sym, refl, subst, arith, ℕ, zero, suc, ◌<◌, ◌≤◌, ◌-◌, ℤ, Bool, Option, None, Some, List, [], ◌∷◌, length, length-drop, take, drop}
use Rattle.jl_io.specs.Moved.{Gives, NothingLeft}
use Rattle.jl_work.specs.Owed.{IsProgram, IsFaultLine}
use Rattle.jl_work.specs.Place.{too_long_line}
use Rattle.jl_work.specs.Split.{separator_among}
use Rattle.jl_embed.proofs.CutLemmas.{take_whole}
use Rattle.jl_embed.specs.Replies.{Seen, opened, IsWritten, HasServed}
use Rattle.jl_embed.specs.Requests.{lines_of}
use Rattle.jl_embed.specs.Sessions.{separator, parts_at, parts_of, usage_line, no_session_line, Ending, unopened, ended, HasHeld, no_program, served, no_memory, HasParted, no_session, HasClosed, usage, too_long, not_read, not_kept, read, IsSession}

pub empty_list : (xs : List ℕ) → length xs ≡ 0 → xs ≡ []
empty_list [] e = refl
empty_list (x ∷ xs) e = absurd (omega (arith, e))

-- ---- the parts of a source

drop_least : (xs : List ℕ) (least n : ℕ) → least ≤ length xs → least ≤ n → (least < length xs → least ≡ n) → drop least xs ≡ drop n xs
drop_least [] zero zero l m e = refl
drop_least [] zero (suc n) l m e = refl
drop_least [] (suc k) n l m e = absurd (omega (arith, l))
drop_least (x ∷ xs) zero n l m e = ap (λ (k : ℕ). drop k (x ∷ xs)) (e (omega arith))
drop_least (x ∷ xs) (suc k) zero l m e = absurd (omega (arith, m))
drop_least (x ∷ xs) (suc k) (suc n) l m e = drop_least xs k n (omega (arith, l)) (omega (arith, m)) (λ z. let h = e (omega (arith, z)) in omega (arith, h))

pub parts_some : (bytes line front back : List ℕ) (r : Option ℕ) (place least : ℕ) → r ≡ separator_among (line ∷ []) bytes → line ≡ separator → r ≡ Some place → front ≡ take place bytes → back ≡ drop place bytes
    → least ≤ length back → least ≤ 10 → (least < length back → least ≡ 10) → parts_of bytes ≡ Some (front, take (length back - least) (drop least back))
parts_some bytes line front back r place least e f h fronts backs l m n =
    let found = sym (ap (λ (x : List ℕ). separator_among (x ∷ []) bytes) f) ∙ sym e ∙ h in
    let rest : take (length back - least) (drop least back) ≡ drop 10 (drop place bytes) =
    take_whole (drop least back) (length back - least) (omega (arith, length-drop least back)) ∙ drop_least back least 10 l m n ∙ ap (drop 10) backs in
    ap (parts_at bytes) found ∙ (λ i. Some (sym fronts i, sym rest i))

-- ---- how it ended

module _ (count : ℕ) (allows : ℕ → ℤ → ℤ → ℤ → Bool) (held held' : Option (List ℕ)) (rose : Type 0) where
  module _ (script requests : List ℕ) where
    pub told_fault : (e : Ending) (line text : List ℕ) (status : ℕ) → e ≡ unopened status → IsFaultLine script line → text ≡ line → IsWritten 3 text held held' rose status → HasHeld count allows held held' rose script requests e
    told_fault e line text status is fault same w =
        subst (λ (x : Ending). HasHeld count allows held held' rose script requests x) (sym is) (no_program line status fault (subst (λ (x : List ℕ). IsWritten 3 x held held' rose status) same w))

    pub refused_memory : (e : Ending) → e ≡ unopened 6 → held' ≡ held → HasHeld count allows held held' rose script requests e
    refused_memory e is same = subst (λ (x : Ending). HasHeld count allows held held' rose script requests x) (sym is) (no_memory same)

    pub all_served : (e : Ending) (s t : Seen) (status : ℕ) → e ≡ ended t status → IsProgram script → s ≡ opened script → HasServed count allows s (lines_of requests) held held' rose status t → HasHeld count allows held held' rose script requests e
    all_served e s t status is program same h =
        subst (λ (x : Ending). HasHeld count allows held held' rose script requests x) (sym is)
        (served status t program (subst (λ (x : Seen). HasServed count allows x (lines_of requests) held held' rose status t) same h))

  pub told_no_session : (bytes text : List ℕ) (e : Ending) (status : ℕ) → e ≡ unopened status → parts_of bytes ≡ None → text ≡ no_session_line → IsWritten 3 text held held' rose status → HasParted count allows held held' rose bytes e
  told_no_session bytes text e status is none_ same w =
      subst (λ (x : Ending). HasParted count allows held held' rose bytes x) (sym is) (no_session status none_ (subst (λ (x : List ℕ). IsWritten 3 x held held' rose status) same w))

-- ---- the whole call

module _ (words count : ℕ) (allows : ℕ → ℤ → ℤ → ℤ → Bool) (left left' held held' : Option (List ℕ)) (source_rose sink_rose : Type 0) (bytes : List ℕ) (gives : Gives left bytes left') (few : length bytes ≤ 1048577) where
  abbrev Closes : Ending → Type 0
  Closes e = HasClosed count allows held held' sink_rose words bytes left' source_rose e

  session_so : (e e' : Ending) → e ≡ e' → Closes e' → IsSession words count allows left left' held held' source_rose sink_rose e
  session_so e e' is h = record { bytes = bytes; gives = gives; limited = few; closed = subst (λ (x : Ending). Closes x) (sym is) h }

  pub session_used : (e : Ending) (text : List ℕ) (status : ℕ) → e ≡ unopened status → 0 < words → bytes ≡ [] → text ≡ usage_line → IsWritten 2 text held held' sink_rose status → IsSession words count allows left left' held held' source_rose sink_rose e
  session_used e text status is some_ nothing same w = session_so e (unopened status) is (usage status some_ nothing (subst (λ (x : List ℕ). IsWritten 2 x held held' sink_rose status) same w))

  pub session_long : (e : Ending) (text : List ℕ) (status : ℕ) → e ≡ unopened status → words ≡ 0 → 1048576 < length bytes → text ≡ too_long_line → IsWritten 3 text held held' sink_rose status
      → IsSession words count allows left left' held held' source_rose sink_rose e
  session_long e text status is none_ long same w = session_so e (unopened status) is (too_long status none_ long (subst (λ (x : List ℕ). IsWritten 3 x held held' sink_rose status) same w))

  pub session_unread : (e : Ending) → e ≡ unopened 4 → words ≡ 0 → held' ≡ held → source_rose → IsSession words count allows left left' held held' source_rose sink_rose e
  session_unread e is none_ same rises = session_so e (unopened 4) is (not_read none_ same rises)

  pub session_unkept : (e : Ending) → e ≡ unopened 6 → words ≡ 0 → length bytes ≤ 1048576 → held' ≡ held → IsSession words count allows left left' held held' source_rose sink_rose e
  session_unkept e is none_ short same = session_so e (unopened 6) is (not_kept none_ short same)

  pub session_read : (e : Ending) (text : List ℕ) → words ≡ 0 → length bytes ≤ 1048576 → NothingLeft left' → text ≡ bytes → HasParted count allows held held' sink_rose text e → IsSession words count allows left left' held held' source_rose sink_rose e
  session_read e text none_ short ends same h = session_so e e refl (read e none_ short ends (subst (λ (x : List ℕ). HasParted count allows held held' sink_rose x e) same h))
