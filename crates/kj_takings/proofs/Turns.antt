-- Turns and waits keep states alike.
use Rattle.std.proofs.Common.{◌≡◌, ◌∙◌, refl, sym, ap, subst, zero, suc, ℕ, ◌+◌, Bool, true, false, ◌==◌, Option, None, Some, arith}
use Rattle.std.specs.Prelude.{is_some}
use Rattle.std.proofs.lemmas.Bool.{false≢true}
use Rattle.kj_base.specs.Queue.{head_of}
use Rattle.kj_base.specs.declared.outcomes.Outcome.{Outcome}
use Rattle.kj_model.specs.World.{World, State, Setting, Held, Promise, Awaited, held_at}
use Rattle.kj_model.specs.Changes.{silent, named, unnamed}
use Rattle.kj_model.specs.Effects.{disarmed_node}
use Rattle.kj_model.specs.Uses.{is_name}
use Rattle.kj_model.specs.Grown.{Grows}
use Rattle.kj_model.specs.Apply.{Refused}
use Rattle.kj_model.specs.Value.{value, freed}
use Rattle.kj_model.specs.Fire.{fire}
use Rattle.kj_model.specs.Calls.{Turned, Fired, Idle, NoMemory, Stopped, rewound_world, taken_world, turned_by, after_turn, turn_at, turn_unless, turn, more_turns, run, Waited, Done, WaitIdle, Turns, NotThere, WaitNoMemory, WaitStopped, with_awaited, held_awaited, lost_in, lost, awaited_freed, wait_valued, wait_value_at, wait_done, name_back, let_go_of, let_go, wait_turned, wait_turn, wait_more, wait_held, wait_unless, wait}
use Rattle.kj_model.proofs.Growing.{stays, quiet, freed_grows}
use Rattle.kj_ownership.specs.Kept.{is_spent}
use Rattle.kj_takings.specs.Alike.{Lists, with_lists}
use Rattle.kj_takings.specs.Calls.{wait_but_why}
use Rattle.kj_takings.proofs.Names.{found_taken, held_spent}
use Rattle.kj_takings.proofs.Worlds.{Near, Keeps, blind, held_alike, read_alike, listened_near, unnamed_near, new_near}
use Rattle.kj_takings.proofs.Calm.{Same, Calm, CalmOnly, only, pure, bind, then_calm, reads, reads_world, quietly, calm_more, calm_moves, calm_as, less_same, tame_world}
use Rattle.kj_takings.proofs.Effects.{unarmed_near}
use Rattle.kj_takings.proofs.Refusals.{name_alike}
use Rattle.kj_takings.proofs.Values.{value_calm, freed_calm, freed_tame}
use Rattle.kj_takings.proofs.Fires.{fire_calm}

-- a turn
rewound_calm : (loose : ℕ → Bool) → CalmOnly loose 0 (silent rewound_world)
rewound_calm loose = quietly loose rewound_world (blind loose rewound_world (λ l w. refl) (λ w. record { names = refl; limits = refl; awaited = refl }))

taken_calm : (loose : ℕ → Bool) → CalmOnly loose 0 (silent taken_world)
taken_calm loose = quietly loose taken_world (blind loose taken_world (λ l w. refl) (λ w. record { names = refl; limits = refl; awaited = refl }))

after_calm : (loose : ℕ → Bool) → Calm loose 0 after_turn
after_calm loose = reads_world loose (λ w. turned_by w.stopped) (λ l w. refl)

turn_at_calm : (loose : ℕ → Bool) (setting : Setting) (o : Option ℕ) → Calm loose 1 (turn_at setting o)
turn_at_calm loose setting None = calm_more loose 0 1 (λ s. (s, Idle)) (omega arith) (pure loose Idle)
turn_at_calm loose setting (Some n) =
    bind loose 0 1 (only (silent taken_world)) (λ a s. after_turn (silent rewound_world (fire setting n s))) (taken_calm loose) (λ a.
    bind loose 1 0 (only (fire setting n)) (λ b s. after_turn (silent rewound_world s)) (fire_calm loose setting n) (λ b.
    bind loose 0 0 (only (silent rewound_world)) (λ c. after_turn) (rewound_calm loose) (λ c. after_calm loose)))

turn_case : (loose : ℕ → Bool) (setting : Setting) (b : Bool) → Calm loose 1 (turn_unless b setting)
turn_case loose setting true = calm_more loose 0 1 (λ s. (s, Stopped)) (omega arith) (pure loose Stopped)
turn_case loose setting false =
    bind loose 0 1 (λ s. (s, head_of s.world.queue)) (λ o s. turn_at setting o (silent rewound_world s)) (reads_world loose (λ w. head_of w.queue) (λ l w. refl)) (λ o.
    bind loose 0 1 (only (silent rewound_world)) (λ a. turn_at setting o) (rewound_calm loose) (λ a. turn_at_calm loose setting o))

pub turn_calm : (loose : ℕ → Bool) (setting : Setting) → Calm loose 1 (turn setting)
turn_calm loose setting = bind loose 0 1 (λ s. (s, s.world.stopped)) (λ b. turn_unless b setting) (reads_world loose (λ w. w.stopped) (λ l w. refl)) (λ b. turn_case loose setting b)

-- turns
more_calm : (loose : ℕ → Bool) (c : ℕ) (rest : State → State × Turned) (t : Turned) → Calm loose c rest → Calm loose c (more_turns rest t)
more_calm loose c rest Fired h = h
more_calm loose c rest Idle h = calm_more loose 0 c (λ s. (s, Idle)) (omega arith) (pure loose Idle)
more_calm loose c rest NoMemory h = calm_more loose 0 c (λ s. (s, NoMemory)) (omega arith) (pure loose NoMemory)
more_calm loose c rest Stopped h = calm_more loose 0 c (λ s. (s, Stopped)) (omega arith) (pure loose Stopped)

pub run_calm : (loose : ℕ → Bool) (setting : Setting) (n : ℕ) → Calm loose n (run setting n)
run_calm loose setting zero = pure loose Fired
run_calm loose setting (suc n) = calm_more loose (1 + n) (suc n) (run setting (suc n)) (omega arith) (bind loose 1 n (turn setting) (λ t. more_turns (run setting n) t) (turn_calm loose setting) (λ t. more_calm loose n (run setting n) t (run_calm loose setting n)))

-- the awaited tree
awaits_near : (loose : ℕ → Bool) (op : World → World) → ((l : Lists) (w : World) → op (with_lists l w) ≡ with_lists l (op w)) → ((w : World) → (op w).names ≡ w.names) → ((w : World) → (op w).limits ≡ w.limits) → ((w : World) (a : Awaited) → (op w).awaited ≡ Some a → loose a.name ≡ false) → Keeps loose op
awaits_near loose op same names limits firm k w v r =
    let a = r.alike in
    let x = ap (λ ns. Rattle.std.specs.Prelude.length ns) (names w) in
    let y = ap (λ ns. Rattle.std.specs.Prelude.length ns) (names v) in
    let i = ap (λ (l : Rattle.kj_base.specs.declared.numbers.Limits.Limits). l.names) (limits w) in
    let j = ap (λ (l : Rattle.kj_base.specs.declared.numbers.Limits.Limits). l.names) (limits v) in
    let p = r.left in
    let q = r.right in
    record {
      alike = record {
        lists = a.lists;
        seen = ap op a.seen ∙ same a.lists w;
        same = ap (Rattle.kj_takings.specs.Alike.firm_names loose) (names v) ∙ a.same ∙ ap (Rattle.kj_takings.specs.Alike.firm_names loose) (sym (names w));
        left = subst (Rattle.kj_takings.specs.Alike.Sorted loose) (sym (names w)) a.left;
        right = subst (Rattle.kj_takings.specs.Alike.Sorted loose) (sym (names v)) a.right;
        awaited = firm w;
      };
      left = omega (arith, x, i, p);
      right = omega (arith, y, j, q);
    }

none_awaited : (loose : ℕ → Bool) → Keeps loose (with_awaited None)
none_awaited loose = awaits_near loose (with_awaited None) (λ l w. refl) (λ w. refl) (λ w. refl) (λ w a e. absurd (false≢true (ap is_some e)))

lost_case : (loose : ℕ → Bool) (o : Option Awaited) → Keeps loose (lost_in o)
lost_case loose None = λ k w v r. r
lost_case loose (Some a) = awaits_near loose (lost_in (Some a)) (λ l w. refl) (λ w. refl) (λ w. refl) (λ w b e. absurd (false≢true (ap is_some e)))

lost_near : (loose : ℕ → Bool) → Keeps loose lost
lost_near loose k w v r =
    let x = disarmed_node 0 w in
    let y = disarmed_node 0 v in
    let n = unarmed_near loose 0 k w v r in
    subst (λ (o : Option Awaited). Near loose k (lost_in x.awaited x) (lost_in o y)) (read_alike loose k (λ u. u.awaited) x y (λ l u. refl) n) (lost_case loose x.awaited k x y n)

lost_calm : (loose : ℕ → Bool) → CalmOnly loose 0 (silent lost)
lost_calm loose = quietly loose lost (lost_near loose)

freed_awaited : (loose : ℕ → Bool) (o : Option Awaited) → CalmOnly loose 0 (awaited_freed o)
freed_awaited loose None = pure loose tt
freed_awaited loose (Some a) = then_calm loose (freed a.root) (silent (λ w. disarmed_node 0 (with_awaited None w))) (freed_calm loose a.root) (quietly loose (λ w. disarmed_node 0 (with_awaited None w)) (λ k w v r. unarmed_near loose 0 k (with_awaited None w) (with_awaited None v) (none_awaited loose k w v r)))

valued_calm : (loose : ℕ → Bool) (o : Option Outcome) → Calm loose 0 (wait_valued o)
valued_calm loose None = bind loose 0 0 (only (silent lost)) (λ a s. (s, WaitNoMemory)) (lost_calm loose) (λ a. pure loose WaitNoMemory)
valued_calm loose (Some o) = bind loose 0 0 (λ s. (s, s.world.awaited)) (λ a s. (awaited_freed a s, Done o)) (reads_world loose (λ w. w.awaited) (λ l w. refl)) (λ a. bind loose 0 0 (only (awaited_freed a)) (λ b s. (s, Done o)) (freed_awaited loose a) (λ b. pure loose (Done o)))

value_at_calm : (loose : ℕ → Bool) (setting : Setting) (o : Option Awaited) → Calm loose 0 (wait_value_at setting o)
value_at_calm loose setting None = pure loose WaitIdle
value_at_calm loose setting (Some a) = bind loose 0 0 (value setting a.root) (λ r. wait_valued r) (value_calm loose setting a.root) (λ r. valued_calm loose r)

done_calm : (loose : ℕ → Bool) (setting : Setting) → Calm loose 0 (wait_done setting)
done_calm loose setting = bind loose 0 0 (λ s. (s, s.world.awaited)) (λ o. wait_value_at setting o) (reads_world loose (λ w. w.awaited) (λ l w. refl)) (λ o. value_at_calm loose setting o)

-- the promise is let go
back_same : (loose : ℕ → Bool) (b : Bool) (a : Awaited) (k : ℕ) (s t : State) → loose a.name ≡ false → Same loose (1 + k) s t → Same loose k (name_back b a s) (name_back b a t)
back_same loose true a k s t f r =
    let x = less_same loose (1 + k) k s t (omega arith) r in
    tame_world loose (with_awaited None) (none_awaited loose) k (freed a.root s) (freed a.root t) (freed_tame loose a.root k s t x)
back_same loose false a k s t f r =
    let x = less_same loose (1 + k) (suc k) s t (omega arith) r in
    record { world = new_near loose a.name (Promise a.root) k (with_awaited None s.world) (with_awaited None t.world) (λ l. absurd (false≢true (sym f ∙ l))) (none_awaited loose (suc k) s.world t.world x.world); past = x.past }

let_go_case : (loose : ℕ → Bool) (o : Option Awaited) (k : ℕ) (s t : State) → ((a : Awaited) → o ≡ Some a → loose a.name ≡ false) → Same loose (1 + k) s t → Same loose k (let_go_of o s) (let_go_of o t)
let_go_case loose None k s t f r = less_same loose (1 + k) k s t (omega arith) r
let_go_case loose (Some a) k s t f r =
    let firm = f a refl in
    subst (λ (b : Bool). Same loose k (name_back (is_name a.name s.world.names) a s) (name_back b a t)) (sym (name_alike loose (1 + k) a.name s.world t.world firm r.world)) (back_same loose (is_name a.name s.world.names) a k s t firm r)

let_go_same : (loose : ℕ → Bool) (k : ℕ) (s t : State) → Same loose (1 + k) s t → Same loose k (let_go s) (let_go t)
let_go_same loose k s t r =
    let x = silent (disarmed_node 0) s in
    let y = silent (disarmed_node 0) t in
    let n = tame_world loose (disarmed_node 0) (unarmed_near loose 0) (1 + k) s t r in
    subst (λ (o : Option Awaited). Same loose k (let_go_of x.world.awaited x) (let_go_of o y)) (read_alike loose (1 + k) (λ u. u.awaited) x.world y.world (λ l u. refl) n.world) (let_go_case loose x.world.awaited k x y n.world.alike.awaited n)

back_grows : (b : Bool) (a : Awaited) (s : State) → Grows s (name_back b a s)
back_grows true a s = freed_grows a.root s
back_grows false a s = quiet (λ w. named a.name (Promise a.root) (with_awaited None w)) s

go_grows : (o : Option Awaited) (s : State) → Grows s (let_go_of o s)
go_grows None s = stays s
go_grows (Some a) s = back_grows (is_name a.name s.world.names) a s

let_go_calm : (loose : ℕ → Bool) → CalmOnly loose 1 let_go
let_go_calm loose = calm_moves loose 1 (only let_go) (λ s. go_grows s.world.awaited (silent (disarmed_node 0) s)) (λ k s t r. (let_go_same loose k s t r, refl))

-- waits
no_turn : (loose : ℕ → Bool) (c : ℕ) → Calm loose c (λ s. (silent lost s, WaitNoMemory))
no_turn loose c = calm_more loose 0 c (λ s. (silent lost s, WaitNoMemory)) (omega arith) (bind loose 0 0 (only (silent lost)) (λ a s. (s, WaitNoMemory)) (lost_calm loose) (λ a. pure loose WaitNoMemory))

turned_calm : (loose : ℕ → Bool) (setting : Setting) (c : ℕ) (rest : State → State × Waited) (b : Bool) (t : Turned) → Calm loose c rest → Calm loose c (wait_turned setting rest b t)
turned_calm loose setting c rest true Fired h = calm_more loose 0 c (wait_done setting) (omega arith) (done_calm loose setting)
turned_calm loose setting c rest false Fired h = h
turned_calm loose setting c rest true Idle h = no_turn loose c
turned_calm loose setting c rest true NoMemory h = no_turn loose c
turned_calm loose setting c rest true Stopped h = no_turn loose c
turned_calm loose setting c rest false Idle h = no_turn loose c
turned_calm loose setting c rest false NoMemory h = no_turn loose c
turned_calm loose setting c rest false Stopped h = no_turn loose c

gone_calm_as : (loose : ℕ → Bool) (waited : Waited) → Calm loose 1 (λ s. (let_go s, waited))
gone_calm_as loose waited = bind loose 1 0 (only let_go) (λ a s. (s, waited)) (let_go_calm loose) (λ a. pure loose waited)

wait_turn_calm : (loose : ℕ → Bool) (setting : Setting) (c : ℕ) (rest : State → State × Waited) (o : Option ℕ) → Calm loose c rest → Calm loose (1 + c) (wait_turn setting rest o)
wait_turn_calm loose setting c rest None h = calm_more loose 1 (1 + c) (λ s. (let_go s, WaitIdle)) (omega arith) (gone_calm_as loose WaitIdle)
wait_turn_calm loose setting c rest (Some e) h = bind loose 1 c (turn setting) (λ t. wait_turned setting rest (e == 0) t) (turn_calm loose setting) (λ t. turned_calm loose setting c rest (e == 0) t h)

wait_more_calm : (loose : ℕ → Bool) (setting : Setting) (n : ℕ) → Calm loose (n + 1) (wait_more setting n)
wait_more_calm loose setting zero = gone_calm_as loose Turns
wait_more_calm loose setting (suc n) = calm_more loose (0 + (1 + (n + 1))) (suc n + 1) (wait_more setting (suc n)) (omega arith) (bind loose 0 (1 + (n + 1)) (λ s. (s, head_of s.world.queue)) (λ o. wait_turn setting (wait_more setting n) o) (reads_world loose (λ w. head_of w.queue) (λ l w. refl)) (λ o. wait_turn_calm loose setting (n + 1) (wait_more setting n) o (wait_more_calm loose setting n)))

awaited_near : (loose : ℕ → Bool) (name root : ℕ) → loose name ≡ false → Keeps loose (held_awaited name root)
awaited_near loose name root f k w v r =
    let a : Awaited = record { name = name; root = root } in
    let op : World → World = with_awaited (Some a) in
    listened_near loose root k (op (unnamed name w)) (op (unnamed name v)) (awaits_near loose op (λ l u. refl) (λ u. refl) (λ u. refl) (λ u b e. ap (λ (o : Option Awaited). name_or o) (sym e) ∙ f) k (unnamed name w) (unnamed name v) (unnamed_near loose name k w v r))
  where
    name_or : Option Awaited → Bool
    name_or None = false
    name_or (Some b) = loose b.name

-- a wait, but for why it was refused
abbrev wait_told : State × Waited → State × Waited
wait_told r = (r.0, wait_but_why r.1)

held_calm : (loose : ℕ → Bool) (setting : Setting) (name n : ℕ) (h : Option Held) → loose name ≡ false → Calm loose (n + 1) (λ s. wait_told (wait_held setting name n h s))
held_calm loose setting name n (Some (Promise root)) f =
    calm_more loose (0 + (n + 1)) (n + 1) (λ s. wait_told (wait_held setting name n (Some (Promise root)) s)) (omega arith) (bind loose 0 (n + 1) (only (silent (held_awaited name root))) (λ a s. wait_told (wait_more setting n s)) (quietly loose (held_awaited name root) (awaited_near loose name root f)) (λ a.
    calm_more loose (n + 1 + 0) (n + 1) (λ s. wait_told (wait_more setting n s)) (omega arith) (bind loose (n + 1) 0 (wait_more setting n) (λ w s. (s, wait_but_why w)) (wait_more_calm loose setting n) (λ w. pure loose (wait_but_why w)))))
held_calm loose setting name n None f = calm_more loose 0 (n + 1) (λ s. (s, NotThere Rattle.kj_model.specs.Apply.Full)) (omega arith) (pure loose (NotThere Rattle.kj_model.specs.Apply.Full))
held_calm loose setting name n (Some _) f = calm_more loose 0 (n + 1) (λ s. (s, NotThere Rattle.kj_model.specs.Apply.Full)) (omega arith) (pure loose (NotThere Rattle.kj_model.specs.Apply.Full))

held_untold : (setting : Setting) (name n : ℕ) (h : Option Held) (s : State) → wait_held setting name n (found_taken h) s ≡ wait_held setting name n h s
held_untold setting name n None s = refl
held_untold setting name n (Some (Promise root)) s = refl
held_untold setting name n (Some _) s = refl

spent_refused : (setting : Setting) (name n : ℕ) (h : Option Held) (s : State) → is_spent h ≡ true → wait_told (wait_held setting name n h s) ≡ (s, NotThere Rattle.kj_model.specs.Apply.Full)
spent_refused setting name n None s e = refl
spent_refused setting name n (Some (Promise root)) s e = absurd (false≢true e)
spent_refused setting name n (Some _) s e = refl

firm_wait : (loose : ℕ → Bool) (setting : Setting) (name n : ℕ) → loose name ≡ false → Calm loose (n + 1) (λ s. wait_told (wait_held setting name n (held_at name s.world.names) s))
firm_wait loose setting name n f =
    calm_as loose (n + 1) (λ s. wait_told (wait_held setting name n (found_taken (held_at name s.world.names)) s)) (λ s. wait_told (wait_held setting name n (held_at name s.world.names) s)) (λ s. ap wait_told (held_untold setting name n (held_at name s.world.names) s))
    (calm_more loose (0 + (n + 1)) (n + 1) (λ s. wait_told (wait_held setting name n (found_taken (held_at name s.world.names)) s)) (omega arith)
    (bind loose 0 (n + 1) (λ s. (s, found_taken (held_at name s.world.names))) (λ h s. wait_told (wait_held setting name n h s))
    (reads loose (λ s. found_taken (held_at name s.world.names)) (λ s t k r. sym (held_alike loose k name s.world t.world f r.world)))
    (λ h. held_calm loose setting name n h f)))

loose_wait : (loose : ℕ → Bool) (setting : Setting) (name n k : ℕ) (s t : State) → loose name ≡ true → Same loose k s t → Same loose k (wait_held setting name n (held_at name s.world.names) s).0 (wait_held setting name n (held_at name t.world.names) t).0 × (wait_but_why (wait_held setting name n (held_at name s.world.names) s).1 ≡ wait_but_why (wait_held setting name n (held_at name t.world.names) t).1)
loose_wait loose setting name n k s t l r =
    let x = spent_refused setting name n (held_at name s.world.names) s (held_spent loose name s.world.names l r.world.alike.left.spent) in
    let y = spent_refused setting name n (held_at name t.world.names) t (held_spent loose name t.world.names l r.world.alike.right.spent) in
    (subst (λ (u : State). Same loose k u (wait_held setting name n (held_at name t.world.names) t).0) (sym (ap (λ (u : State × Waited). u.0) x)) (subst (Same loose k s) (sym (ap (λ (u : State × Waited). u.0) y)) r), ap (λ (u : State × Waited). u.1) x ∙ sym (ap (λ (u : State × Waited). u.1) y))

-- a wait
wait_case : (loose : ℕ → Bool) (setting : Setting) (name n : ℕ) (b : Bool) → loose name ≡ false → Calm loose (n + 1) (λ s. wait_told (wait_unless b setting name n s))
wait_case loose setting name n true f = calm_more loose 0 (n + 1) (λ s. (s, WaitStopped)) (omega arith) (pure loose WaitStopped)
wait_case loose setting name n false f = firm_wait loose setting name n f

pub wait_calm : (loose : ℕ → Bool) (setting : Setting) (name n : ℕ) → loose name ≡ false → Calm loose (n + 1) (λ s. wait_told (wait setting name n s))
wait_calm loose setting name n f = calm_more loose (0 + (n + 1)) (n + 1) (λ s. wait_told (wait setting name n s)) (omega arith) (bind loose 0 (n + 1) (λ s. (s, s.world.stopped)) (λ b s. wait_told (wait_unless b setting name n s)) (reads_world loose (λ w. w.stopped) (λ l w. refl)) (λ b. wait_case loose setting name n b f))

loose_case : (loose : ℕ → Bool) (setting : Setting) (name n k : ℕ) (s t : State) (b : Bool) → loose name ≡ true → Same loose k s t → Same loose k (wait_unless b setting name n s).0 (wait_unless b setting name n t).0 × (wait_but_why (wait_unless b setting name n s).1 ≡ wait_but_why (wait_unless b setting name n t).1)
loose_case loose setting name n k s t true l r = (r, refl)
loose_case loose setting name n k s t false l r = loose_wait loose setting name n k s t l r

pub wait_loose : (loose : ℕ → Bool) (setting : Setting) (name n k : ℕ) (s t : State) → loose name ≡ true → Same loose k s t → Same loose k (wait setting name n s).0 (wait setting name n t).0 × (wait_but_why (wait setting name n s).1 ≡ wait_but_why (wait setting name n t).1)
wait_loose loose setting name n k s t l r = subst (λ (b : Bool). Same loose k (wait setting name n s).0 (wait_unless b setting name n t).0 × (wait_but_why (wait setting name n s).1 ≡ wait_but_why (wait_unless b setting name n t).1)) (read_alike loose k (λ u. u.stopped) s.world t.world (λ l u. refl) r.world) (loose_case loose setting name n k s t s.world.stopped l r)
