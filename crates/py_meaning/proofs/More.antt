-- More turns change nothing of a run that is over, and so many as are left are enough to stand one in the other.
use Rattle.std.proofs.Common.{◌≡◌, ℕ, zero, suc, ◌+◌, ◌-◌, ◌≤◌, List, [], ◌∷◌, length, refl, ap, ◌∙◌, arith}
use Rattle.py_meaning.specs.Values.{ref}
use Rattle.py_meaning.specs.Programs.{Program, program}
use Rattle.py_meaning.specs.Calls.{perform}
use Rattle.py_meaning.specs.Actions.{Scope, with_scope, with_new, with_parts, Flow, Request, Outcome, came, threw, Action, gives, raises, takes, counts, turn, looks, becomes, makes, refills, tells, then_do}
use Rattle.py_meaning.specs.Runs.{State, out_of_turns, out_of_choices, Answer, gave, raised, stopped, with_memory, with_event, with_choices, with_turns, after_turn, take_choice, carry_out, begin_turn, come_back, turns_within, start, module_action, make_calls, run_of, answer, run}
use Rattle.py_meaning.specs.Laws.{reached, IsOver, MoreTurnsChangeNothing, NestingIsEnough}
use Rattle.py_meaning.proofs.Carrying
use Rattle.py_meaning.proofs.Carrying.{fewer_turns}

-- ---- with so many turns more

abbrev more : ℕ → State → State
more d s = with_turns (d + s.turns) s

abbrev shifted : {A : Type 0} → ℕ → Answer A → Answer A
shifted d (gave a s) = gave a (more d s)
shifted d (raised v s) = raised v (more d s)
shifted d (stopped why s) = stopped why (more d s)

abbrev Over : {A : Type 0} → Answer A → Type 0
Over (stopped out_of_turns s) = ⊥
Over _ = Unit {0}

-- where the first is over, the second is the same but for the turns that are left
abbrev Follows : {A : Type 0} → ℕ → Answer A → Answer A → Type 0
Follows d r q = Over r → q ≡ shifted d r

after_turn_more : {A : Type 0} (d : ℕ) (r q : Answer Flow) (k j : Outcome → State → Answer A) → Follows d r q → ((o : Outcome) (s : State) → Follows d (k o s) (j o (more d s))) → Follows d (after_turn r k) (after_turn q j)
after_turn_more d (gave flow s) q k j h g over = ap (λ q. after_turn q j) (h tt) ∙ g (came flow) s over
after_turn_more d (raised v s) q k j h g over = ap (λ q. after_turn q j) (h tt) ∙ g (threw v) s over
after_turn_more d (stopped out_of_turns s) q k j h g over = absurd over
after_turn_more d (stopped out_of_choices s) q k j h g over = ap (λ q. after_turn q j) (h tt)

take_choice_more : {A : Type 0} (d : ℕ) (cs : List ℕ) (k j : ℕ → State → Answer A) (s : State) → ((c : ℕ) (t : State) → Follows d (k c t) (j c (more d t))) → Follows d (take_choice cs k s) (take_choice cs j (more d s))
take_choice_more d [] k j s g over = refl
take_choice_more d (c ∷ cs) k j s g over = g c (with_choices cs s) over

carry_more : {A : Type 0} (d : ℕ) (t u : Request → State → Answer Flow) → ((q : Request) (s : State) → Follows d (t q s) (u q (more d s))) → (a : Action A) (s : State) → Follows d (carry_out t a s) (carry_out u a (more d s))
carry_more d t u h (gives a) s over = refl
carry_more d t u h (raises v) s over = refl
carry_more d t u h (takes k) s over = take_choice_more d s.choices (λ c. carry_out t (k c)) (λ c. carry_out u (k c)) s (λ c s'. carry_more d t u h (k c) s') over
carry_more d t u h (counts k) s over = carry_more d t u h (k (length s.choices)) s over
carry_more d t u h (turn q k) s over = after_turn_more d (t q s) (u q (more d s)) (λ o. carry_out t (k o)) (λ o. carry_out u (k o)) (h q s) (λ o s'. carry_more d t u h (k o) s') over
carry_more d t u h (looks k) s over = carry_more d t u h (k s.memory) s over
carry_more d t u h (becomes c a) s over = carry_more d t u h a (with_memory (with_scope c s.memory) s) over
carry_more d t u h (makes o k) s over = carry_more d t u h (k (ref (length s.memory.heap))) (with_memory (with_new o s.memory) s) over
carry_more d t u h (refills place new a) s over = carry_more d t u h a (with_memory (with_parts place new s.memory) s) over
carry_more d t u h (tells e a) s over = carry_more d t u h a (with_event e s) over

begin_more : (d n : ℕ) (f g : State → Answer Flow) (s : State) → s.turns ≡ n → ((t : State) → Follows d (f t) (g (more d t))) → Follows d (begin_turn n f s) (begin_turn (d + s.turns) g (more d s))
begin_more d zero f g s e h over = absurd over
begin_more d (suc n) f g s e h over =
    let next : d + s.turns ≡ suc (d + n) = omega arith in
    ap (λ x. begin_turn x g (more d s)) next ∙ h (with_turns n s) over

over_before : (q : Request) (before : Scope) (r : Answer Flow) → Over (come_back q before r) → Over r
over_before q before (gave flow s) over = tt
over_before q before (raised v s) over = tt
over_before q before (stopped why s) over = over

come_back_more : (d : ℕ) (q : Request) (before : Scope) (r : Answer Flow) → come_back q before (shifted d r) ≡ shifted d (come_back q before r)
come_back_more d q before (gave flow s) = refl
come_back_more d q before (raised v s) = refl
come_back_more d q before (stopped why s) = refl

turns_more : (p : Program) (d n k : ℕ) → n ≤ k → (q : Request) (s : State) → Follows d (turns_within p n q s) (turns_within p k q (more d s))
unfolding turns_within
turns_more p d zero k le q s over = absurd over
turns_more p d (suc n) zero le q s over = absurd (omega arith)
turns_more p d (suc n) (suc k) le q s over =
    let c : Scope = s.memory.scope in
    let r : Answer Flow = begin_turn s.turns (carry_out (turns_within p n) (perform p q)) s in
    ap (λ x. come_back q c x)
    (begin_more d s.turns (carry_out (turns_within p n) (perform p q)) (carry_out (turns_within p k) (perform p q)) s refl
    (λ t. carry_more d (turns_within p n) (turns_within p k) (turns_more p d n k (omega arith)) (perform p q) t) (over_before q c r over))
    ∙ come_back_more d q c r

over_of : {A : Type 0} (r : Answer A) → IsOver (run_of r).ending → Over r
over_of (gave a s) h = tt
over_of (raised v s) h = tt
over_of (stopped out_of_turns s) h = h
over_of (stopped out_of_choices s) h = tt

seen_same : {A : Type 0} (d : ℕ) (r : Answer A) → run_of (shifted d r) ≡ run_of r
seen_same d (gave a s) = refl
seen_same d (raised v s) = refl
seen_same d (stopped why s) = refl

pub more_turns_change_nothing : MoreTurnsChangeNothing
unfolding run answer
more_turns_change_nothing m stubs n k choices calls le over =
    let p : Program = program m stubs in
    let a : Action (Unit {0}) = then_do (module_action p) (make_calls p calls) in
    let d : ℕ = k - n in
    let all : k ≡ d + n = omega arith in
    let same : carry_out (turns_within p k) a (start (d + n) choices) ≡ shifted d (carry_out (turns_within p n) a (start n choices)) =
    carry_more d (turns_within p n) (turns_within p k) (turns_more p d n k le) a (start n choices) (over_of (carry_out (turns_within p n) a (start n choices)) over) in
    ap (λ x. run_of (carry_out (turns_within p k) a (start x choices))) all ∙ ap run_of same ∙ seen_same d (carry_out (turns_within p n) a (start n choices))

-- ---- so many as are left are enough

after_turn_same : {A : Type 0} (n : ℕ) (r : Answer Flow) (k j : Outcome → State → Answer A) → (reached r).turns ≤ n → ((o : Outcome) (s : State) → s.turns ≤ n → j o s ≡ k o s) → after_turn r j ≡ after_turn r k
after_turn_same n (gave flow s) k j le h = h (came flow) s le
after_turn_same n (raised v s) k j le h = h (threw v) s le
after_turn_same n (stopped why s) k j le h = refl

take_choice_same : {A : Type 0} (cs : List ℕ) (k j : ℕ → State → Answer A) (s : State) → ((c : ℕ) (ds : List ℕ) → j c (with_choices ds s) ≡ k c (with_choices ds s)) → take_choice cs j s ≡ take_choice cs k s
take_choice_same [] k j s h = refl
take_choice_same (c ∷ cs) k j s h = h c cs

module _ (n : ℕ) (t u : Request → State → Answer Flow) (same : (q : Request) (s : State) → s.turns ≤ n → u q s ≡ t q s) (fewer : (q : Request) (s : State) → (reached (t q s)).turns ≤ s.turns) where
  carry_same : {A : Type 0} (a : Action A) (s : State) → s.turns ≤ n → carry_out u a s ≡ carry_out t a s
  carry_same (gives a) s le = refl
  carry_same (raises v) s le = refl
  carry_same (takes k) s le = take_choice_same s.choices (λ c. carry_out t (k c)) (λ c. carry_out u (k c)) s (λ c ds. carry_same (k c) (with_choices ds s) le)
  carry_same (counts k) s le = carry_same (k (length s.choices)) s le
  carry_same (turn q k) s le =
      let less : (reached (t q s)).turns ≤ s.turns = fewer q s in
      let still : (reached (t q s)).turns ≤ n = omega arith in
      ap (λ r. after_turn r (λ o. carry_out u (k o))) (same q s le) ∙ after_turn_same n (t q s) (λ o. carry_out t (k o)) (λ o. carry_out u (k o)) still (λ o s' le'. carry_same (k o) s' le')
  carry_same (looks k) s le = carry_same (k s.memory) s le
  carry_same (becomes c a) s le = carry_same a (with_memory (with_scope c s.memory) s) le
  carry_same (makes o k) s le = carry_same (k (ref (length s.memory.heap))) (with_memory (with_new o s.memory) s) le
  carry_same (refills place new a) s le = carry_same a (with_memory (with_parts place new s.memory) s) le
  carry_same (tells e a) s le = carry_same a (with_event e s) le

fewer_in_turns : (p : Program) (n : ℕ) (q : Request) (s : State) → (reached (turns_within p n q s)).turns ≤ s.turns
fewer_in_turns p n q s = Carrying.turns_go fewer_turns p n q s

begin_same : (n x : ℕ) (f g : State → Answer Flow) (s : State) → x ≤ suc n → ((y : ℕ) → y ≤ n → g (with_turns y s) ≡ f (with_turns y s)) → begin_turn x g s ≡ begin_turn x f s
begin_same n zero f g s le h = refl
begin_same n (suc x) f g s le h = h x (omega arith)

turns_same : (p : Program) (n k : ℕ) → n ≤ k → (q : Request) (s : State) → s.turns ≤ n → turns_within p k q s ≡ turns_within p n q s
unfolding turns_within
turns_same p zero zero le q s few = refl
turns_same p zero (suc k) le q s few =
    let none_left : s.turns ≡ 0 = omega arith in
    ap (λ x. come_back q s.memory.scope (begin_turn x (carry_out (turns_within p k) (perform p q)) s)) none_left
turns_same p (suc n) zero le q s few = absurd (omega arith)
turns_same p (suc n) (suc k) le q s few =
    ap (λ x. come_back q s.memory.scope x) (begin_same n s.turns (carry_out (turns_within p n) (perform p q)) (carry_out (turns_within p k) (perform p q)) s few
    (λ y small. carry_same n (turns_within p n) (turns_within p k) (turns_same p n k (omega arith)) (fewer_in_turns p n) (perform p q) (with_turns y s) small))

pub nesting_is_enough : NestingIsEnough
unfolding answer
nesting_is_enough m stubs n k choices calls le =
    let p : Program = program m stubs in
    carry_same n (turns_within p n) (turns_within p k) (turns_same p n k le) (fewer_in_turns p n) (then_do (module_action p) (make_calls p calls)) (start n choices) (omega arith)
