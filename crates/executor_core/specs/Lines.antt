-- Histories in little memory: a line stands for an entry, whose words are apart.
use Rattle.std.specs.Prelude.{ℕ, ◌+◌, ◌*◌, ◌<◌, ◌≤◌, List, [], ◌∷◌, ◌++◌, map, length, take, drop}
use Rattle.kj_base.specs.declared.outcomes.Outcome.TheVariants.{Value, Broken}
use Rattle.executor_core.specs.declared.line.Deed.{Deed}
use Rattle.executor_core.specs.declared.line.Deed.TheVariants as deed
use Rattle.executor_core.specs.declared.line.Line.{Line}
use Rattle.executor_core.specs.declared.log.TheConstants.{MAX_ENTRIES}
use Rattle.executor_core.specs.declared.entry.Entry.{Entry}
use Rattle.executor_core.specs.declared.call.Call.TheVariants.{Submit, Next, Finish, Cancel, Collect, Close}
use Rattle.executor_core.specs.declared.call.Reply.TheVariants.{Ticket, Start, Stop, Done, Withdrawn, Asked, Ended}
use Rattle.executor_core.specs.Histories.{entry}

-- the entry of a caller's deed, with words
abbrev pub told : ℕ → Deed → List ℕ → Entry
told c (deed.Submitted r step) words = entry c (Submit step words) (Ticket r)
told c (deed.Started r step) words = entry c Next (Start r step words)
told c (deed.Stopped r) words = entry c Next (Stop r)
told c (deed.Finished r) words = entry c (Finish r (Value words)) Done
told c (deed.Failed r e) words = entry c (Finish r (Broken e)) Done
told c (deed.Withdrawn r) words = entry c (Cancel r) Withdrawn
told c (deed.Asked r) words = entry c (Cancel r) Asked
told c (deed.Collected r) words = entry c (Collect r) (Ended (Value words))
told c (deed.CollectedFailed r e) words = entry c (Collect r) (Ended (Broken e))
told c deed.Closed words = entry c Close Done

-- the words of a line, among all
abbrev pub part : List ℕ → Line → List ℕ
part words l = take l.count (drop l.from words)

abbrev pub entry_at : List ℕ → Line → Entry
entry_at words l = told l.caller l.deed (part words l)

abbrev pub entries_of : List ℕ → List Line → List Entry
entries_of words ls = map (entry_at words) ls

-- what contracts see of a log: its entries, and for how many there is room
pub record Logged : Type 0 where
  pub entries : List Entry
  pub room : ℕ

abbrev pub logged : List Entry → ℕ → Logged
logged entries room = record { entries = entries; room = room }

-- one entry more
abbrev pub followed : Logged → Entry → Logged
followed l e = logged (l.entries ++ e ∷ []) l.room

abbrev pub HasRoom : Logged → Type 0
HasRoom l = length l.entries < l.room

-- the words of each line are among so many, and few
abbrev pub Within : ℕ → List Line → Type 0
Within n [] = Unit {0}
Within n (l ∷ ls) = (l.from + l.count ≤ n) × (l.count ≤ 16) × Within n ls

-- what a log keeps: each line's words, and room for as many words as its lines may have
pub record Fitting (words : List ℕ) (word_room : ℕ) (ls : List Line) (room : ℕ) : Type 0 where
  pub within : Within (length words) ls
  pub few : length words ≤ 16 * length ls
  pub wide : 16 * room ≤ word_room
  pub small : room ≤ MAX_ENTRIES
