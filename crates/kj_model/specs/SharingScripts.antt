-- Scripts on races, joins and hubs.
use Rattle.std.specs.Prelude.{ℕ, List, [], ◌∷◌, codes, Some, None}
use Rattle.kj_base.specs.declared.outcomes.Kind.TheVariants.{Failed, Overloaded}
use Rattle.kj_base.specs.declared.endings.Ending.TheVariants.{Value as Give}
use Rattle.kj_base.specs.Commands.{Now, Broken, Later, Pair, Then, Chain, Fork, Branch, Race, All, Fast, Fulfil, NewCanceler, Wrap, Cancel, Detach, Drop}
use Rattle.kj_model.specs.Log.{Do, Turn, RunTurns, Wait, Script}
use Rattle.kj_model.specs.Scripts.{at, body, exception, lines, promised, script}

-- both Sides are armed; the left one fires first and frees the other's tree, then the task frees the race, and the event of the other Side leaves the queue
-- later 1 | later 2 | race 3 1 2 | detach 3 | run 3
abbrev pub loser_is_disarmed : Script
loser_is_disarmed = script None [] (
    at 1 (Do (Later 1)) ∷
    at 2 (Do (Later 2)) ∷
    at 3 (Do (Race 3 1 2)) ∷
    at 4 (Do (Detach 3)) ∷
    at 5 (RunTurns 3) ∷ [])

-- its log
abbrev pub loser_is_disarmed_log : List ℕ
loser_is_disarmed_log = lines (codes "free 2" ∷
    codes "free 1" ∷
    codes "free 3" ∷
    codes "free 4" ∷
    codes "free 5" ∷
    codes "free 6" ∷ [])

-- the event of the Side that lost is still armed: it fires without effect, so the second turn isn't idle, and only the third line is
-- later 1 | later 2 | race 3 1 2 | run 2 | turn
abbrev pub loser_fires_without_effect : Script
loser_fires_without_effect = script None [] (
    at 1 (Do (Later 1)) ∷
    at 2 (Do (Later 2)) ∷
    at 3 (Do (Race 3 1 2)) ∷
    at 4 (RunTurns 2) ∷
    at 5 Turn ∷ [])

-- its log
abbrev pub loser_fires_without_effect_log : List ℕ
loser_fires_without_effect_log = lines (codes "free 2" ∷
    codes "idle" ∷
    codes "free 1" ∷
    codes "free 3" ∷
    codes "free 4" ∷
    codes "free 5" ∷ [])

-- the words of the parts stand one after another, by index
-- now 1 5 | now 2 6 | all 3 1 2 | then 4 3 9 - | detach 4 | run 5
abbrev pub all_in_order : Script
all_in_order = script None [] (
    at 1 (Do (Now 1 (5 ∷ []))) ∷
    at 2 (Do (Now 2 (6 ∷ []))) ∷
    at 3 (Do (All 3 (1 ∷ 2 ∷ []))) ∷
    at 4 (Do (Then 4 3 (Some 9) None)) ∷
    at 5 (Do (Detach 4)) ∷
    at 6 (RunTurns 5) ∷ [])

-- its log
abbrev pub all_in_order_log : List ℕ
all_in_order_log = lines (codes "free 1" ∷
    codes "free 2" ∷
    codes "free 3" ∷
    codes "free 4" ∷
    codes "free 5" ∷
    codes "run 6 9 value 5 6" ∷
    codes "free 6" ∷
    codes "free 7" ∷ [])

-- each part is evaluated, those after the first exception too
-- now 1 5 | fail 2 failed 1002 | now 3 6 | fail 4 overloaded 1004 | then 11 1 31 - | then 12 2 32 42 | then 13 3 33 - | then 14 4 34 44 | all 20 11 12 13 14 | wait 20 10
abbrev pub all_ends_every_part : Script
all_ends_every_part = script None [] (
    at 1 (Do (Now 1 (5 ∷ []))) ∷
    at 2 (Do (Broken 2 (exception Failed 1002))) ∷
    at 3 (Do (Now 3 (6 ∷ []))) ∷
    at 4 (Do (Broken 4 (exception Overloaded 1004))) ∷
    at 5 (Do (Then 11 1 (Some 31) None)) ∷
    at 6 (Do (Then 12 2 (Some 32) (Some 42))) ∷
    at 7 (Do (Then 13 3 (Some 33) None)) ∷
    at 8 (Do (Then 14 4 (Some 34) (Some 44))) ∷
    at 9 (Do (All 20 (11 ∷ 12 ∷ 13 ∷ 14 ∷ []))) ∷
    at 10 (Wait 20 10) ∷ [])

-- its log
abbrev pub all_ends_every_part_log : List ℕ
all_ends_every_part_log = lines (codes "free 1" ∷
    codes "run 5 31 value 5" ∷
    codes "free 5" ∷
    codes "free 2" ∷
    codes "run 6 42 throw failed 1002" ∷
    codes "free 6" ∷
    codes "free 3" ∷
    codes "run 7 33 value 6" ∷
    codes "free 7" ∷
    codes "free 4" ∷
    codes "run 8 44 throw overloaded 1004" ∷
    codes "free 8" ∷
    codes "free 9" ∷
    codes "free 10" ∷
    codes "free 11" ∷
    codes "free 12" ∷
    codes "free 13" ∷
    codes "wait 20 done throw failed 1002" ∷ [])

-- the second part is an exception, and the fast join ends: the parts behind are freed and none of their steps runs
-- now 1 5 | fail 2 failed 1002 | now 3 6 | fail 4 overloaded 1004 | then 11 1 31 - | then 12 2 32 42 | then 13 3 33 - | then 14 4 34 44 | fast 20 11 12 13 14 | wait 20 10
abbrev pub fast_ends_early : Script
fast_ends_early = script None [] (
    at 1 (Do (Now 1 (5 ∷ []))) ∷
    at 2 (Do (Broken 2 (exception Failed 1002))) ∷
    at 3 (Do (Now 3 (6 ∷ []))) ∷
    at 4 (Do (Broken 4 (exception Overloaded 1004))) ∷
    at 5 (Do (Then 11 1 (Some 31) None)) ∷
    at 6 (Do (Then 12 2 (Some 32) (Some 42))) ∷
    at 7 (Do (Then 13 3 (Some 33) None)) ∷
    at 8 (Do (Then 14 4 (Some 34) (Some 44))) ∷
    at 9 (Do (Fast 20 (11 ∷ 12 ∷ 13 ∷ 14 ∷ []))) ∷
    at 10 (Wait 20 10) ∷ [])

-- its log
abbrev pub fast_ends_early_log : List ℕ
fast_ends_early_log = lines (codes "free 1" ∷
    codes "run 5 31 value 5" ∷
    codes "free 5" ∷
    codes "free 2" ∷
    codes "run 6 42 throw failed 1002" ∷
    codes "free 6" ∷
    codes "free 9" ∷
    codes "free 10" ∷
    codes "free 3" ∷
    codes "free 7" ∷
    codes "free 11" ∷
    codes "free 4" ∷
    codes "free 8" ∷
    codes "free 12" ∷
    codes "free 13" ∷
    codes "wait 20 done throw failed 1002" ∷ [])

-- the first part has failed, and nobody waits: the event of the second Side still fires, and its step runs
-- fail 1 failed 1000 | later 2 | then 3 2 20 - | fast 4 1 3 | run 2
abbrev pub fast_goes_on : Script
fast_goes_on = script None [] (
    at 1 (Do (Broken 1 (exception Failed 1000))) ∷
    at 2 (Do (Later 2)) ∷
    at 3 (Do (Then 3 2 (Some 20) None)) ∷
    at 4 (Do (Fast 4 (1 ∷ 3 ∷ []))) ∷
    at 5 (RunTurns 2) ∷ [])

-- its log
abbrev pub fast_goes_on_log : List ℕ
fast_goes_on_log = lines (codes "free 1" ∷
    codes "free 2" ∷
    codes "run 3 20 value" ∷
    codes "free 3" ∷
    codes "free 4" ∷
    codes "free 5" ∷
    codes "free 6" ∷ [])

-- seventeen words are too many: the join ends with code 6
-- now 1 1 2 3 4 5 6 7 8 | now 2 1 2 3 4 5 6 7 8 9 | all 3 1 2 | wait 3 3
abbrev pub too_many_words : Script
too_many_words = script None [] (
    at 1 (Do (Now 1 (1 ∷ 2 ∷ 3 ∷ 4 ∷ 5 ∷ 6 ∷ 7 ∷ 8 ∷ []))) ∷
    at 2 (Do (Now 2 (1 ∷ 2 ∷ 3 ∷ 4 ∷ 5 ∷ 6 ∷ 7 ∷ 8 ∷ 9 ∷ []))) ∷
    at 3 (Do (All 3 (1 ∷ 2 ∷ []))) ∷
    at 4 (Wait 3 3) ∷ [])

-- its log
abbrev pub too_many_words_log : List ℕ
too_many_words_log = lines (codes "free 1" ∷
    codes "free 2" ∷
    codes "free 3" ∷
    codes "free 4" ∷
    codes "free 5" ∷
    codes "wait 3 done throw failed 6" ∷ [])

-- the tree of the hub is freed when it fires; the branches run in the order of making, and the hub goes when its name does, at the closing
-- now 1 5 | fork 2 1 | branch 3 2 | branch 4 2 | detach 3 | detach 4 | run 5
abbrev pub branches_share : Script
branches_share = script None [] (
    at 1 (Do (Now 1 (5 ∷ []))) ∷
    at 2 (Do (Fork 2 1)) ∷
    at 3 (Do (Branch 3 2)) ∷
    at 4 (Do (Branch 4 2)) ∷
    at 5 (Do (Detach 3)) ∷
    at 6 (Do (Detach 4)) ∷
    at 7 (RunTurns 5) ∷ [])

-- its log
abbrev pub branches_share_log : List ℕ
branches_share_log = lines (codes "free 1" ∷
    codes "free 3" ∷
    codes "free 5" ∷
    codes "free 4" ∷
    codes "free 6" ∷
    codes "free 2" ∷ [])

-- at the closing names go by rising number: the name 2 gives up its reference, then the branch under 3 was the last: hub and branch go
-- now 1 5 | fork 2 1 | branch 3 2
abbrev pub closing_drops_references : Script
closing_drops_references = script None [] (
    at 1 (Do (Now 1 (5 ∷ []))) ∷
    at 2 (Do (Fork 2 1)) ∷
    at 3 (Do (Branch 3 2)) ∷ [])

-- its log
abbrev pub closing_drops_references_log : List ℕ
closing_drops_references_log = lines (codes "free 1" ∷
    codes "free 2" ∷
    codes "free 3" ∷ [])

-- the step runs while the hub fires: its name can't be dropped
-- step 20 | drop 4 | value 5 | later 1 | then 2 1 20 - | fork 4 2 | run 1 | branch 5 4 | wait 5 1
abbrev pub hub_that_fires_stays : Script
hub_that_fires_stays = script None (
    body 20 (Drop 4 ∷ []) (Give (5 ∷ [])) ∷ []) (
    at 4 (Do (Later 1)) ∷
    at 5 (Do (Then 2 1 (Some 20) None)) ∷
    at 6 (Do (Fork 4 2)) ∷
    at 7 (RunTurns 1) ∷
    at 8 (Do (Branch 5 4)) ∷
    at 9 (Wait 5 1) ∷ [])

-- its log
abbrev pub hub_that_fires_stays_log : List ℕ
hub_that_fires_stays_log = lines (codes "free 1" ∷
    codes "run 2 20 value" ∷
    codes "free 2" ∷
    codes "free 4" ∷
    codes "wait 5 done throw failed 9" ∷
    codes "free 3" ∷ [])

-- the chain below the hub becomes a branch of the hub: it waits for itself, and without a name it stays until the closing frees its tree first
-- step 20 | branch 5 4 | promise 5 | later 1 | chain 2 1 20 - | fork 4 2 | turn | drop 4 | turn | later 6
abbrev pub hub_holds_its_branch : Script
hub_holds_its_branch = script None (
    body 20 (Branch 5 4 ∷ []) (promised 5) ∷ []) (
    at 4 (Do (Later 1)) ∷
    at 5 (Do (Chain 2 1 (Some 20) None)) ∷
    at 6 (Do (Fork 4 2)) ∷
    at 7 Turn ∷
    at 8 (Do (Drop 4)) ∷
    at 9 Turn ∷
    at 10 (Do (Later 6)) ∷ [])

-- its log
abbrev pub hub_holds_its_branch_log : List ℕ
hub_holds_its_branch_log = lines (codes "free 1" ∷
    codes "run 2 20 value" ∷
    codes "free 2" ∷
    codes "free 3" ∷
    codes "idle" ∷
    codes "free 6" ∷
    codes "free 5" ∷
    codes "free 4" ∷ [])

-- the race below the hub holds a branch of it: the loser's tree is that branch, the last reference, but the hub holds the Side that fires
-- step 20 | branch 5 4 | pair 6 7 | race 8 5 6 | promise 8 | later 1 | chain 2 1 20 - | fork 4 2 | turn | drop 4 | fulfil 7 | run 3
abbrev pub hub_holds_what_fires : Script
hub_holds_what_fires = script None (
    body 20 (Branch 5 4 ∷ Pair 6 7 ∷ Race 8 5 6 ∷ []) (promised 8) ∷ []) (
    at 6 (Do (Later 1)) ∷
    at 7 (Do (Chain 2 1 (Some 20) None)) ∷
    at 8 (Do (Fork 4 2)) ∷
    at 9 Turn ∷
    at 10 (Do (Drop 4)) ∷
    at 11 (Do (Fulfil 7 [])) ∷
    at 12 (RunTurns 3) ∷ [])

-- its log
abbrev pub hub_holds_what_fires_log : List ℕ
hub_holds_what_fires_log = lines (codes "free 1" ∷
    codes "run 2 20 value" ∷
    codes "free 2" ∷
    codes "free 3" ∷
    codes "free 5" ∷
    codes "free 6" ∷
    codes "free 7" ∷
    codes "free 8" ∷
    codes "free 9" ∷
    codes "free 4" ∷ [])

-- the same, freed while the hub itself fires
-- step 20 | branch 5 4 | fail 6 failed 1000 | fast 8 5 6 | promise 8 | later 1 | chain 2 1 20 - | fork 4 2 | turn | drop 4 | run 3
abbrev pub hub_fires_and_loses_its_branch : Script
hub_fires_and_loses_its_branch = script None (
    body 20 (Branch 5 4 ∷ Broken 6 (exception Failed 1000) ∷ Fast 8 (5 ∷ 6 ∷ []) ∷ []) (promised 8) ∷ []) (
    at 6 (Do (Later 1)) ∷
    at 7 (Do (Chain 2 1 (Some 20) None)) ∷
    at 8 (Do (Fork 4 2)) ∷
    at 9 Turn ∷
    at 10 (Do (Drop 4)) ∷
    at 11 (RunTurns 3) ∷ [])

-- its log
abbrev pub hub_fires_and_loses_its_branch_log : List ℕ
hub_fires_and_loses_its_branch_log = lines (codes "free 1" ∷
    codes "run 2 20 value" ∷
    codes "free 2" ∷
    codes "free 3" ∷
    codes "free 6" ∷
    codes "free 5" ∷
    codes "free 7" ∷
    codes "free 8" ∷
    codes "free 9" ∷
    codes "free 4" ∷ [])

-- the tree that a cancel frees is the hub's last reference, but the hub holds the wrap that is cancelled
-- step 20 | branch 5 4 | promise 5 | canceler 9 | later 1 | chain 2 1 20 - | wrap 3 9 2 | fork 4 3 | turn | drop 4 | cancel 9 | run 3
abbrev pub hub_holds_the_cancelled : Script
hub_holds_the_cancelled = script None (
    body 20 (Branch 5 4 ∷ []) (promised 5) ∷ []) (
    at 4 (Do (NewCanceler 9)) ∷
    at 5 (Do (Later 1)) ∷
    at 6 (Do (Chain 2 1 (Some 20) None)) ∷
    at 7 (Do (Wrap 3 9 2)) ∷
    at 8 (Do (Fork 4 3)) ∷
    at 9 Turn ∷
    at 10 (Do (Drop 4)) ∷
    at 11 (Do (Cancel 9)) ∷
    at 12 (RunTurns 3) ∷ [])

-- its log
abbrev pub hub_holds_the_cancelled_log : List ℕ
hub_holds_the_cancelled_log = lines (codes "free 1" ∷
    codes "run 2 20 value" ∷
    codes "free 2" ∷
    codes "free 3" ∷
    codes "free 6" ∷
    codes "free 4" ∷
    codes "free 5" ∷ [])

-- the hub fires first and arms the right Side depth first, ahead of the left one; the branch that wins is the hub's last reference
-- now 1 5 | fork 2 1 | branch 3 2 | drop 2 | later 4 | race 5 4 3 | detach 5 | run 3
abbrev pub loser_takes_the_hub : Script
loser_takes_the_hub = script None [] (
    at 1 (Do (Now 1 (5 ∷ []))) ∷
    at 2 (Do (Fork 2 1)) ∷
    at 3 (Do (Branch 3 2)) ∷
    at 4 (Do (Drop 2)) ∷
    at 5 (Do (Later 4)) ∷
    at 6 (Do (Race 5 4 3)) ∷
    at 7 (Do (Detach 5)) ∷
    at 8 (RunTurns 3) ∷ [])

-- its log
abbrev pub loser_takes_the_hub_log : List ℕ
loser_takes_the_hub_log = lines (codes "free 1" ∷
    codes "free 4" ∷
    codes "free 2" ∷
    codes "free 3" ∷
    codes "free 5" ∷
    codes "free 6" ∷
    codes "free 7" ∷
    codes "free 8" ∷ [])

-- a join without parts is ready from the start, with the empty value
-- all 1 | wait 1 1 | fast 2 | wait 2 1
abbrev pub joins_of_none : Script
joins_of_none = script None [] (
    at 1 (Do (All 1 [])) ∷
    at 2 (Wait 1 1) ∷
    at 3 (Do (Fast 2 [])) ∷
    at 4 (Wait 2 1) ∷ [])

-- its log
abbrev pub joins_of_none_log : List ℕ
joins_of_none_log = lines (codes "free 1" ∷
    codes "wait 1 done value" ∷
    codes "free 2" ∷
    codes "wait 2 done value" ∷ [])

-- each branch gives the exception; the hub goes before the branch that was its last reference
-- fail 1 overloaded 1001 | fork 2 1 | branch 3 2 | branch 4 2 | drop 2 | then 5 3 - 30 | detach 5 | then 6 4 - 31 | detach 6 | run 4
abbrev pub exception_to_each_branch : Script
exception_to_each_branch = script None [] (
    at 1 (Do (Broken 1 (exception Overloaded 1001))) ∷
    at 2 (Do (Fork 2 1)) ∷
    at 3 (Do (Branch 3 2)) ∷
    at 4 (Do (Branch 4 2)) ∷
    at 5 (Do (Drop 2)) ∷
    at 6 (Do (Then 5 3 None (Some 30))) ∷
    at 7 (Do (Detach 5)) ∷
    at 8 (Do (Then 6 4 None (Some 31))) ∷
    at 9 (Do (Detach 6)) ∷
    at 10 (RunTurns 4) ∷ [])

-- its log
abbrev pub exception_to_each_branch_log : List ℕ
exception_to_each_branch_log = lines (codes "free 1" ∷
    codes "free 3" ∷
    codes "run 5 30 throw overloaded 1001" ∷
    codes "free 5" ∷
    codes "free 6" ∷
    codes "free 2" ∷
    codes "free 4" ∷
    codes "run 7 31 throw overloaded 1001" ∷
    codes "free 7" ∷
    codes "free 8" ∷ [])

-- the promise that the step gives takes the chain's place under the hub, which listens to it
-- step 10 | promise 3 | pair 3 13 | later 1 | chain 2 1 10 - | fork 4 2 | branch 5 4 | then 6 5 20 - | detach 6 | turn | fulfil 13 8 | run 2
abbrev pub hub_over_a_given_promise : Script
hub_over_a_given_promise = script None (
    body 10 [] (promised 3) ∷ []) (
    at 3 (Do (Pair 3 13)) ∷
    at 4 (Do (Later 1)) ∷
    at 5 (Do (Chain 2 1 (Some 10) None)) ∷
    at 6 (Do (Fork 4 2)) ∷
    at 7 (Do (Branch 5 4)) ∷
    at 8 (Do (Then 6 5 (Some 20) None)) ∷
    at 9 (Do (Detach 6)) ∷
    at 10 Turn ∷
    at 11 (Do (Fulfil 13 (8 ∷ []))) ∷
    at 12 (RunTurns 2) ∷ [])

-- its log
abbrev pub hub_over_a_given_promise_log : List ℕ
hub_over_a_given_promise_log = lines (codes "free 2" ∷
    codes "run 3 10 value" ∷
    codes "free 3" ∷
    codes "free 4" ∷
    codes "free 1" ∷
    codes "free 6" ∷
    codes "run 7 20 value 8" ∷
    codes "free 7" ∷
    codes "free 8" ∷
    codes "free 5" ∷ [])
