-- What follows of something that is made only of what was made.
use Rattle.std.proofs.Common.{◌≡◌, IfOk, OnOk, Result, Ok, Err}
use Rattle.std.proofs.lemmas.Result.{IfOk-at_ok}
use Rattle.jl_resolve_walk.specs.Steps.{Gives}

pub given :
    {A B E : Type 0} (made : Result A E) (result : Result B E) (M : A → B → Type 0) (P : A → Type 0) (Q : B → Type 0)
    → Gives made result M → IfOk made P → ((a : A) (b : B) → P a → M a b → Q b) → IfOk result Q
given made (Ok b) M P Q g p f = f g.0 b (IfOk-at_ok P g.1 p) g.2
given made (Err e) M P Q g p f = tt

-- what held where it was made holds where the other is
pub given_on :
    {A B E : Type 0} (made : Result A E) (result : Result B E) (M : A → B → Type 0) (P Q : Type 0)
    → Gives made result M → OnOk made P → (P → Q) → OnOk result Q
given_on made (Ok b) M P Q g p f = f (IfOk-at_ok (λ _. P) g.1 p)
given_on made (Err e) M P Q g p f = tt

-- two facts at once
pub both_given :
    {A B E : Type 0} (made : Result A E) (result : Result B E) (M : A → B → Type 0) (P : A → Type 0) (K : Type 0) (Q : B → Type 0)
    → Gives made result M → IfOk made P → OnOk made K → ((a : A) (b : B) → P a → K → M a b → Q b) → IfOk result Q
both_given made (Ok b) M P K Q g p k f = f g.0 b (IfOk-at_ok P g.1 p) (IfOk-at_ok (λ _. K) g.1 k) g.2
both_given made (Err e) M P K Q g p k f = tt

-- of a result that is given on as it is
pub weaker : {A E : Type 0} (r : Result A E) (P Q : A → Type 0) → IfOk r P → ((a : A) → P a → Q a) → IfOk r Q
weaker (Ok a) P Q p f = f a p
weaker (Err e) P Q p f = tt

pub weaker_on : {A E : Type 0} (r : Result A E) (P Q : Type 0) → OnOk r P → (P → Q) → OnOk r Q
weaker_on (Ok a) P Q p f = f p
weaker_on (Err e) P Q p f = tt

pub always : {A E : Type 0} (r : Result A E) (P : Type 0) → P → OnOk r P
always (Ok a) P p = p
always (Err e) P p = tt

pub ok_at : {A E : Type 0} (r : Result A E) (x : A) (P : A → Type 0) → r ≡ Ok x → IfOk r P → P x
ok_at r x P e p = IfOk-at_ok P e p
