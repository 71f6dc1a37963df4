-- One output for each input.
use Rattle.std.proofs.Common.{◌≡◌, ◌⊎◌, ℕ, ◌<◌, ◌≤◌, ◌^◌, List, [], ◌∷◌, ◌++◌, length, All, refl, sym, ap, ◌∙◌, subst, arith, inl, inr, length-append, append-nil, Option, None}
use Rattle.std.specs.Prelude.{codes, decimal, Some}
use Rattle.std.proofs.lemmas.List.Elements.{All-cons, All-nil}
use Rattle.std.proofs.lemmas.Bool.{cases_lt}
use Rattle.std.specs.Io.KnownBytes.{Consumes, Appends}
use Rattle.kj_base.specs.declared.limits.TheConstants.{INPUT_LIMIT}
use Rattle.promise_commands.specs.Script.{Script}
use Rattle.promise_commands.specs.Scripts.{script_of}
use Rattle.kj_model.specs.Log.{log_of}
use Rattle.kj_script.specs.Running.{places_fit}
use Rattle.kj_model.specs.Text.{log_text}
use Rattle.promise_script.specs.Scripts.{IsScriptText, IsBadLine, IsNotBuiltLine}
use Rattle.conn_record.specs.Records.{conn_text, conns_text, record_text, reply_text, IsRecording, IsNoRecording, BeginsWith, IsWholeUpTo}
use Rattle.http_core.specs.declared.message.Request.{Request}
use Rattle.http_core.specs.declared.message.Answer.{Answer}
use Rattle.http_core.specs.Replies.{IsReplies}
use Rattle.kj_serve.specs.declared.forms.Form.{Form}
use Rattle.kj_serve.specs.declared.forms.Form.TheVariants.{Run, Replay, Make}
use Rattle.kj_serve.specs.declared.replay.ServiceName.{ServiceName}
use Rattle.kj_serve.specs.Outside.{Outside, NoFault, ReadWhole, Wrote}
use Rattle.kj_serve.specs.Run.{RunsTo, RunEnds, bad_line, not_built_line}
use Rattle.kj_serve.specs.Ends.{Ends}
use Rattle.kj_serve.specs.Replay.{ReplayEnds, AreReplies, IsReplyText, ReplaysTo, answers_of, bad_record}
use Rattle.kj_serve.specs.Make.{made_text}
use Rattle.kj_serve.proofs.Refused.{whole_input}
use Rattle.kj_serve.specs.Outputs.{FaultGives, RunGives, BadGives, ReplayGives, Gives}

-- ---- one output

-- a text is one script at most, and has one line at fault at most
pub record OneScript : Type 0 where
  pub script : (text : List ℕ) (a b : Script) → IsScriptText text a → IsScriptText text b → a ≡ b
  pub bad : (text : List ℕ) (a b : ℕ) → IsBadLine text a → IsBadLine text b → a ≡ b
  pub not_built : (text : List ℕ) (a b : ℕ) → IsNotBuiltLine text a → IsNotBuiltLine text b → a ≡ b

-- a text is a script, or has a line at fault; and no two of these hold
pub record SomeScript : Type 0 where
  pub some : (text : List ℕ) → ((script : Script) × IsScriptText text script) ⊎ (((line : ℕ) × IsBadLine text line) ⊎ ((line : ℕ) × IsNotBuiltLine text line))
  pub not_bad : (text : List ℕ) (script : Script) (line : ℕ) → IsScriptText text script → IsBadLine text line → ⊥
  pub built : (text : List ℕ) (script : Script) (line : ℕ) → IsScriptText text script → IsNotBuiltLine text line → ⊥
  pub either : (text : List ℕ) (a b : ℕ) → IsBadLine text a → IsNotBuiltLine text b → ⊥

abbrev pub IsShort : List ℕ → Type 0
IsShort conn = length conn < 2 ^ 64

abbrev pub OneRecording : Type 0
OneRecording = (a b : List (List ℕ)) → All IsShort a → All IsShort b → record_text a ≡ record_text b → a ≡ b

abbrev pub OneReply : Type 0
OneReply = (f : Request → Answer) (bytes output other : List ℕ) → IsReplies f bytes output → IsReplies f bytes other → output ≡ other

same_log : OneScript → (input a b : List ℕ) → RunsTo input a → RunsTo input b → a ≡ b
same_log one input a b f g = f.log ∙ ap (λ (s : Script). log_text (log_of places_fit (script_of s))) (one.script input f.script g.script f.text g.text) ∙ sym g.log

same_fault : (IsFault : List ℕ → ℕ → Type 0) (text : ℕ → List ℕ) (input a b : List ℕ) → ((j k : ℕ) → IsFault input j → IsFault input k → j ≡ k) → FaultGives IsFault text input a → FaultGives IsFault text input b → a ≡ b
same_fault IsFault text input a b one f g = f.2 ∙ ap text (one f.0 g.0 f.1 g.1) ∙ sym g.2

one_run : OneScript → SomeScript → (input a b : List ℕ) (s t : ℕ) → RunGives input s a → RunGives input t b → (s ≡ t) × (a ≡ b)
one_run one some input a b s t (inl f) (inl g) = (f.2 ∙ sym g.2, same_log one input a b f.1 g.1)
one_run one some input a b s t (inl f) (inr (inl g)) = absurd (some.not_bad input f.1.script g.1.0 f.1.text g.1.1)
one_run one some input a b s t (inl f) (inr (inr (inl g))) = absurd (some.built input f.1.script g.1.0 f.1.text g.1.1)
one_run one some input a b s t (inl f) (inr (inr (inr g))) = absurd (omega (arith, f.0, g.0))
one_run one some input a b s t (inr (inl f)) (inl g) = absurd (some.not_bad input g.1.script f.1.0 g.1.text f.1.1)
one_run one some input a b s t (inr (inl f)) (inr (inl g)) = (f.2 ∙ sym g.2, same_fault IsBadLine bad_line input a b (one.bad input) f.1 g.1)
one_run one some input a b s t (inr (inl f)) (inr (inr (inl g))) = absurd (some.either input f.1.0 g.1.0 f.1.1 g.1.1)
one_run one some input a b s t (inr (inl f)) (inr (inr (inr g))) = absurd (omega (arith, f.0, g.0))
one_run one some input a b s t (inr (inr (inl f))) (inl g) = absurd (some.built input g.1.script f.1.0 g.1.text f.1.1)
one_run one some input a b s t (inr (inr (inl f))) (inr (inl g)) = absurd (some.either input g.1.0 f.1.0 g.1.1 f.1.1)
one_run one some input a b s t (inr (inr (inl f))) (inr (inr (inl g))) = (f.2 ∙ sym g.2, same_fault IsNotBuiltLine not_built_line input a b (one.not_built input) f.1 g.1)
one_run one some input a b s t (inr (inr (inl f))) (inr (inr (inr g))) = absurd (omega (arith, f.0, g.0))
one_run one some input a b s t (inr (inr (inr f))) (inl g) = absurd (omega (arith, f.0, g.0))
one_run one some input a b s t (inr (inr (inr f))) (inr (inl g)) = absurd (omega (arith, f.0, g.0))
one_run one some input a b s t (inr (inr (inr f))) (inr (inr (inl g))) = absurd (omega (arith, f.0, g.0))
one_run one some input a b s t (inr (inr (inr f))) (inr (inr (inr g))) = (f.2 ∙ sym g.2, f.1 ∙ sym g.1)

-- a connection is no longer than its text
conn_inside : (conn : List ℕ) → length conn ≤ length (conn_text conn)
conn_inside conn =
    let last = length-append (codes "conn " ++ decimal (length conn) ++ 10 ∷ conn) (10 ∷ []) in
    let first = length-append (codes "conn " ++ decimal (length conn)) (10 ∷ conn) in
    omega (arith, last, first)

short_conns : (conns : List (List ℕ)) → length (conns_text conns) < 2 ^ 64 → All IsShort conns
short_conns [] small = All-nil IsShort
short_conns (conn ∷ conns) small =
    let whole = length-append (conn_text conn) (conns_text conns) in
    All-cons IsShort conn conns (omega (arith, small, whole, conn_inside conn)) (short_conns conns (omega (arith, small, whole)))

are_short : (input : List ℕ) (conns : List (List ℕ)) → length input ≤ INPUT_LIMIT → IsRecording input conns → All IsShort conns
are_short input conns short is = short_conns conns (omega (arith, short, ap length is.text, length-append (codes "kjrec 1\n") (conns_text conns)))

same_replies : OneReply → (f : Request → Answer) (conns xs ys : List (List ℕ)) → AreReplies f conns xs → AreReplies f conns ys → xs ≡ ys
same_replies one f [] [] [] p q = refl
same_replies one f [] [] (y ∷ ys) p q = absurd q
same_replies one f [] (x ∷ xs) ys p q = absurd p
same_replies one f (c ∷ conns) [] ys p q = absurd p
same_replies one f (c ∷ conns) (x ∷ xs) [] p q = absurd q
same_replies one f (c ∷ conns) (x ∷ xs) (y ∷ ys) p q = λ i. one f c x y p.0 q.0 i ∷ same_replies one f conns xs ys p.1 q.1 i

same_text : OneReply → (f : Request → Answer) (conns : List (List ℕ)) (a b : List ℕ) → IsReplyText f conns a → IsReplyText f conns b → a ≡ b
same_text one f conns a b p q = p.text_is ∙ ap reply_text (same_replies one f conns p.replies q.replies p.each q.each) ∙ sym q.text_is

same_output : OneRecording → OneReply → (f : Request → Answer) (input a b : List ℕ) → length input ≤ INPUT_LIMIT → ReplaysTo f input a → ReplaysTo f input b → a ≡ b
same_output recording reply f input a b short p q =
    let conns : p.conns ≡ q.conns = recording p.conns q.conns (are_short input p.conns short p.recording) (are_short input q.conns short q.recording) (sym p.recording.text ∙ q.recording.text) in
    same_text reply f q.conns a b (subst (λ (c : List (List ℕ)). IsReplyText f c a) conns p.text) q.text

at_most : (input : List ℕ) (j k : ℕ) → IsWholeUpTo input j → IsWholeUpTo input k → j ≤ k
at_most input j k p q = by p.there
  where
    by : (j ≡ 0) ⊎ ((conns : List (List ℕ)) × BeginsWith input conns × (length conns ≡ j)) → j ≤ k
    by (inl none) = omega (arith, none)
    by (inr found) = omega (arith, q.most found.0 found.1, found.2)

same_bad : (input a b : List ℕ) → BadGives input a → BadGives input b → a ≡ b
same_bad input a b p q =
    let whole : p.0 ≡ q.0 = omega (arith, at_most input p.0 q.0 p.1 q.1, at_most input q.0 p.0 q.1 p.1) in
    p.2 ∙ ap bad_record whole ∙ sym q.2

one_replay : OneRecording → OneReply → (f : Request → Answer) (input a b : List ℕ) (s t : ℕ) → ReplayGives f input s a → ReplayGives f input t b → (s ≡ t) × (a ≡ b)
one_replay recording reply f input a b s t (inl p) (inl q) = (p.2 ∙ sym q.2, same_output recording reply f input a b p.0 p.1 q.1)
one_replay recording reply f input a b s t (inl p) (inr (inl q)) = absurd (q.1 p.1.conns p.1.recording)
one_replay recording reply f input a b s t (inl p) (inr (inr q)) = absurd (omega (arith, p.0, q.0))
one_replay recording reply f input a b s t (inr (inl p)) (inl q) = absurd (p.1 q.1.conns q.1.recording)
one_replay recording reply f input a b s t (inr (inl p)) (inr (inl q)) = (p.3 ∙ sym q.3, same_bad input a b p.2 q.2)
one_replay recording reply f input a b s t (inr (inl p)) (inr (inr q)) = absurd (omega (arith, p.0, q.0))
one_replay recording reply f input a b s t (inr (inr p)) (inl q) = absurd (omega (arith, p.0, q.0))
one_replay recording reply f input a b s t (inr (inr p)) (inr (inl q)) = absurd (omega (arith, p.0, q.0))
one_replay recording reply f input a b s t (inr (inr p)) (inr (inr q)) = (p.2 ∙ sym q.2, p.1 ∙ sym q.1)

pub one_given : OneScript → SomeScript → OneRecording → OneReply → (form : Form) (input a b : List ℕ) (s t : ℕ) → Gives form input s a → Gives form input t b → (s ≡ t) × (a ≡ b)
one_given script some recording reply Run input a b s t p q = one_run script some input a b s t p q
one_given script some recording reply (Replay service) input a b s t p q = one_replay recording reply (answers_of service) input a b s t p q
one_given script some recording reply (Make number conns requests) input a b s t p q = (p.1 ∙ sym q.1, p.0 ∙ sym q.0)

-- ---- some output

abbrev pub SomeRecording : Type 0
SomeRecording = (bytes : List ℕ) → length bytes < 2 ^ 64 → ((conns : List (List ℕ)) × IsRecording bytes conns) ⊎ (IsNoRecording bytes × ((whole : ℕ) × IsWholeUpTo bytes whole))

abbrev pub SomeReply : Type 0
SomeReply = (f : Request → Answer) (bytes : List ℕ) → (output : List ℕ) × IsReplies f bytes output

-- a status and an output
abbrev Given : Form → List ℕ → Type 0
Given form input = (status : ℕ) × (output : List ℕ) × Gives form input status output

some_run : SomeScript → (input : List ℕ) → Given Run input
some_run script input = by (cases_lt INPUT_LIMIT (length input)) (script.some input)
  where
    by : (INPUT_LIMIT < length input) ⊎ (length input ≤ INPUT_LIMIT) → ((script : Script) × IsScriptText input script) ⊎ (((line : ℕ) × IsBadLine input line) ⊎ ((line : ℕ) × IsNotBuiltLine input line)) → Given Run input
    by (inl long) found = (6, [], inr (inr (inr (long, refl, refl))))
    by (inr short) (inl found) = (0, log_text (log_of places_fit (script_of found.0)), inl (short, record { script = found.0; text = found.1; log = refl }, refl))
    by (inr short) (inr (inl found)) = (1, bad_line found.0, inr (inl (short, (found.0, found.1, refl), refl)))
    by (inr short) (inr (inr found)) = (9, not_built_line found.0, inr (inr (inl (short, (found.0, found.1, refl), refl))))

some_replies : SomeReply → (f : Request → Answer) (conns : List (List ℕ)) → (replies : List (List ℕ)) × AreReplies f conns replies
some_replies some f [] = ([], tt)
some_replies some f (c ∷ conns) =
    let first = some f c in
    let others = some_replies some f conns in
    (first.0 ∷ others.0, (first.1, others.1))

some_replay : SomeRecording → SomeReply → (service : ServiceName) (input : List ℕ) → Given (Replay service) input
some_replay recording reply service input = by_length (cases_lt INPUT_LIMIT (length input))
  where
    f : Request → Answer
    f = answers_of service

    by : length input ≤ INPUT_LIMIT → ((conns : List (List ℕ)) × IsRecording input conns) ⊎ (IsNoRecording input × ((whole : ℕ) × IsWholeUpTo input whole)) → Given (Replay service) input
    by short (inl found) =
        let replies = some_replies reply f found.0 in
        let text : IsReplyText f found.0 (reply_text replies.0) = record { replies = replies.0; each = replies.1; text_is = refl } in
        (0, reply_text replies.0, inl (short, record { conns = found.0; recording = found.1; text = text }, refl))
    by short (inr none) = (1, bad_record none.1.0, inr (inl (short, none.0, (none.1.0, none.1.1, refl), refl)))

    by_length : (INPUT_LIMIT < length input) ⊎ (length input ≤ INPUT_LIMIT) → Given (Replay service) input
    by_length (inl long) = (6, [], inr (inr (long, refl, refl)))
    by_length (inr short) = by short (recording input (omega (arith, short)))

pub some_given : SomeScript → SomeRecording → SomeReply → (form : Form) (input : List ℕ) → Given form input
some_given script recording reply Run input = some_run script input
some_given script recording reply (Replay service) input = some_replay recording reply service input
some_given script recording reply (Make number conns requests) input = (0, made_text number conns requests, (refl, refl))

-- ---- what the program ends with

same_known : (a b : List ℕ) → ◌≡◌ {A = Option (List ℕ)} (Some a) (Some b) → a ≡ b
same_known a b e = cc

-- what was read is no longer than what was there
read_within : (left new : Option (List ℕ)) (input octets : List ℕ) → left ≡ Some input → Consumes left new octets → length octets ≤ length input
read_within None new input octets known read = absurd (cc (known))
read_within (Some l) None input octets known read = absurd read
read_within (Some l) (Some rest) input octets known read = omega (arith, ap length (sym (same_known l input known) ∙ read), length-append octets rest)

-- an output that stays was appended nothing
nothing_more : (old new : Option (List ℕ)) → new ≡ old → Appends old new []
nothing_more None new same = tt
nothing_more (Some xs) None same = absurd (cc (same))
nothing_more (Some xs) (Some ys) same = same_known ys xs same ∙ sym (append-nil xs)

abbrev Written : Form → ℕ → Outside → Outside → List ℕ → Type 0
Written form status before after input = (output : List ℕ) × Gives form input status output × Wrote before after output

run_written : (status : ℕ) (before after : Outside) (input : List ℕ) → RunEnds status before after → before.left ≡ Some input → NoFault before after → (status ≡ 5 → ⊥) → Written Run status before after input
run_written status before after input e known fine room = by e.statuses
  where
    all_of : (octets : List ℕ) → ReadWhole before after octets → octets ≡ input
    all_of octets read = sym (whole_input before.left after.left input octets known read.read read.at_end)

    short_of : (octets : List ℕ) → ReadWhole before after octets → length input ≤ INPUT_LIMIT
    short_of octets read = subst (λ (x : List ℕ). length x ≤ INPUT_LIMIT) (all_of octets read) read.short

    done : status ≡ 0 → Written Run status before after input
    done zero =
        let found = e.done zero in
        let r = found.1 in
        (found.0, inl (short_of r.input r.read, subst (λ (x : List ℕ). RunsTo x found.0) (all_of r.input r.read) r.runs, zero), found.2)

    bad : status ≡ 1 → Written Run status before after input
    bad one =
        let found = e.bad one in
        let r = found.1 in
        (bad_line found.0, inr (inl (short_of r.input r.read, (found.0, subst (λ (x : List ℕ). IsBadLine x found.0) (all_of r.input r.read) r.fault, refl), one)), found.2)

    not_built : status ≡ 9 → Written Run status before after input
    not_built nine =
        let found = e.not_built nine in
        let r = found.1 in
        (not_built_line found.0, inr (inr (inl (short_of r.input r.read, (found.0, subst (λ (x : List ℕ). IsNotBuiltLine x found.0) (all_of r.input r.read) r.fault, refl), nine))), found.2)

    long : status ≡ 6 → Written Run status before after input
    long six =
        let past = (e.too_long six).0 in
        ([], inr (inr (inr (omega (arith, past.2, read_within before.left after.left input past.0 known past.1), refl, six))), nothing_more before.taken after.taken (e.too_long six).1)

    by : (status ≡ 0) ⊎ (status ≡ 1) ⊎ (status ≡ 3) ⊎ (status ≡ 4) ⊎ (status ≡ 5) ⊎ (status ≡ 6) ⊎ (status ≡ 9) → Written Run status before after input
    by (inl a) = done a
    by (inr (inl a)) = bad a
    by (inr (inr (inl a))) = absurd (fine.reads (e.read_failed a).0)
    by (inr (inr (inr (inl a)))) = absurd (fine.writes (e.write_failed a).0)
    by (inr (inr (inr (inr (inl a))))) = absurd (room a)
    by (inr (inr (inr (inr (inr (inl a)))))) = long a
    by (inr (inr (inr (inr (inr (inr a)))))) = not_built a

replay_written : (service : ServiceName) (status : ℕ) (before after : Outside) (input : List ℕ) → ReplayEnds (answers_of service) status before after → before.left ≡ Some input → NoFault before after → (status ≡ 5 → ⊥) → Written (Replay service) status before after input
replay_written service status before after input e known fine room = by e.statuses
  where
    all_of : (octets : List ℕ) → ReadWhole before after octets → octets ≡ input
    all_of octets read = sym (whole_input before.left after.left input octets known read.read read.at_end)

    short_of : (octets : List ℕ) → ReadWhole before after octets → length input ≤ INPUT_LIMIT
    short_of octets read = subst (λ (x : List ℕ). length x ≤ INPUT_LIMIT) (all_of octets read) read.short

    done : status ≡ 0 → Written (Replay service) status before after input
    done zero =
        let found = e.done zero in
        let r = found.1 in
        (found.0, inl (short_of r.input r.read, subst (λ (x : List ℕ). ReplaysTo (answers_of service) x found.0) (all_of r.input r.read) r.replays, zero), found.2)

    bad : status ≡ 1 → Written (Replay service) status before after input
    bad one =
        let found = e.bad one in
        let r = found.1 in
        let same = all_of r.input r.read in
        let gives : BadGives input (bad_record found.0) = (found.0, subst (λ (x : List ℕ). IsWholeUpTo x found.0) same r.up_to, refl) in
        (bad_record found.0, inr (inl (short_of r.input r.read, subst IsNoRecording same r.none, gives, one)), found.2)

    long : status ≡ 6 → Written (Replay service) status before after input
    long six =
        let past = (e.too_long six).0 in
        ([], inr (inr (omega (arith, past.2, read_within before.left after.left input past.0 known past.1), refl, six)), nothing_more before.taken after.taken (e.too_long six).1)

    by : (status ≡ 0) ⊎ (status ≡ 1) ⊎ (status ≡ 3) ⊎ (status ≡ 4) ⊎ (status ≡ 5) ⊎ (status ≡ 6) → Written (Replay service) status before after input
    by (inl a) = done a
    by (inr (inl a)) = bad a
    by (inr (inr (inl a))) = absurd (fine.reads (e.read_failed a).0)
    by (inr (inr (inr (inl a)))) = absurd (fine.writes (e.write_failed a).0)
    by (inr (inr (inr (inr (inl a))))) = absurd (room a)
    by (inr (inr (inr (inr (inr a))))) = long a

pub given_written : (form : Form) (status : ℕ) (before after : Outside) (input : List ℕ) → Ends form status before after → before.left ≡ Some input → NoFault before after → (status ≡ 5 → ⊥) → Written form status before after input
given_written Run status before after input e known fine room = run_written status before after input e known fine room
given_written (Replay service) status before after input e known fine room = replay_written service status before after input e known fine room
given_written (Make number conns requests) status before after input e known fine room = by e.statuses
  where
    by : (status ≡ 0) ⊎ (status ≡ 4) ⊎ (status ≡ 5) → Written (Make number conns requests) status before after input
    by (inl a) = (made_text number conns requests, (refl, a), e.done a)
    by (inr (inl a)) = absurd (fine.writes (e.write_failed a).0)
    by (inr (inr a)) = absurd (room a)
