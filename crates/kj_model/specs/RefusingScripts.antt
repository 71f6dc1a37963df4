-- Scripts on refusals, and on places for nodes.
use Rattle.std.specs.Prelude.{ℕ, List, [], ◌∷◌, codes, Some, None}
use Rattle.kj_base.specs.declared.endings.Ending.TheVariants.{Value as Give}
use Rattle.kj_base.specs.Commands.{Now, Later, Pair, Then, Chain, Race, All, Fulfil, Detach, Drop, Begin}
use Rattle.kj_model.specs.Log.{Do, Turn, Wait, Script}
use Rattle.kj_model.specs.Scripts.{at, body, limits, lines, script}

-- a name that is there, and one that isn't; nothing was armed
-- later 1 | later 1 | then 3 2 - - | turn
abbrev pub taken_and_unknown : Script
taken_and_unknown = script None [] (
    at 1 (Do (Later 1)) ∷
    at 2 (Do (Later 1)) ∷
    at 3 (Do (Then 3 2 None None)) ∷
    at 4 Turn ∷ [])

-- its log
abbrev pub taken_and_unknown_log : List ℕ
taken_and_unknown_log = lines (codes "refused 2 taken 1" ∷
    codes "refused 3 unknown 2" ∷
    codes "idle" ∷
    codes "free 1" ∷ [])

-- names that are missing are told before sources that are named twice, in the order of the fields; a new name that is its own source is taken
-- now 1 5 | all 9 1 2 1 | all 9 1 1 2 | race 9 1 1 | then 1 1 - - | then 3 3 - - | pair 4 4
abbrev pub named_twice : Script
named_twice = script None [] (
    at 1 (Do (Now 1 (5 ∷ []))) ∷
    at 2 (Do (All 9 (1 ∷ 2 ∷ 1 ∷ []))) ∷
    at 3 (Do (All 9 (1 ∷ 1 ∷ 2 ∷ []))) ∷
    at 4 (Do (Race 9 1 1)) ∷
    at 5 (Do (Then 1 1 None None)) ∷
    at 6 (Do (Then 3 3 None None)) ∷
    at 7 (Do (Pair 4 4)) ∷ [])

-- its log
abbrev pub named_twice_log : List ℕ
named_twice_log = lines (codes "refused 2 unknown 2" ∷
    codes "refused 3 unknown 1" ∷
    codes "refused 4 unknown 1" ∷
    codes "refused 5 taken 1" ∷
    codes "refused 6 unknown 3" ∷
    codes "refused 7 taken 4" ∷
    codes "free 1" ∷ [])

-- unknown comes before wrong, and wrong before taken
-- pair 1 2 | race 1 2 3 | race 1 2 1 | race 1 1 1
abbrev pub order_of_causes : Script
order_of_causes = script None [] (
    at 1 (Do (Pair 1 2)) ∷
    at 2 (Do (Race 1 2 3)) ∷
    at 3 (Do (Race 1 2 1)) ∷
    at 4 (Do (Race 1 1 1)) ∷ [])

-- its log
abbrev pub order_of_causes_log : List ℕ
order_of_causes_log = lines (codes "refused 2 unknown 3" ∷
    codes "refused 3 wrong 2" ∷
    codes "refused 4 unknown 1" ∷
    codes "free 1" ∷ [])

-- a step can't begin a request: what it did before stays, the rest isn't done
-- step 20 | later 5 | begin 6 7 | later 8 | value | later 1 | chain 2 1 20 - | turn | wait 2 1 | wait 8 1
abbrev pub outside_alone : Script
outside_alone = script None (
    body 20 (Later 5 ∷ Begin 6 7 [] ∷ Later 8 ∷ []) (Give []) ∷ []) (
    at 6 (Do (Later 1)) ∷
    at 7 (Do (Chain 2 1 (Some 20) None)) ∷
    at 8 Turn ∷
    at 9 (Wait 2 1) ∷
    at 10 (Wait 8 1) ∷ [])

-- its log
abbrev pub outside_alone_log : List ℕ
outside_alone_log = lines (codes "free 1" ∷
    codes "run 2 20 value" ∷
    codes "free 2" ∷
    codes "free 3" ∷
    codes "wait 2 done throw failed 9" ∷
    codes "refused 10 unknown 8" ∷
    codes "free 4" ∷ [])

-- eight nodes that stand one before another fill an arena of eight places; the ninth finds none
-- limits 8 2 | now 1 1 | then 2 1 - - | then 1 2 - - | then 2 1 - - | then 1 2 - - | then 2 1 - - | then 1 2 - - | then 2 1 - - | then 1 2 - - | wait 2 5
abbrev pub path_of_eight : Script
path_of_eight = script (limits 8 2) [] (
    at 2 (Do (Now 1 (1 ∷ []))) ∷
    at 3 (Do (Then 2 1 None None)) ∷
    at 4 (Do (Then 1 2 None None)) ∷
    at 5 (Do (Then 2 1 None None)) ∷
    at 6 (Do (Then 1 2 None None)) ∷
    at 7 (Do (Then 2 1 None None)) ∷
    at 8 (Do (Then 1 2 None None)) ∷
    at 9 (Do (Then 2 1 None None)) ∷
    at 10 (Do (Then 1 2 None None)) ∷
    at 11 (Wait 2 5) ∷ [])

-- its log
abbrev pub path_of_eight_log : List ℕ
path_of_eight_log = lines (codes "refused 10 full" ∷
    codes "free 1" ∷
    codes "free 2" ∷
    codes "free 3" ∷
    codes "free 4" ∷
    codes "free 5" ∷
    codes "free 6" ∷
    codes "free 7" ∷
    codes "free 8" ∷
    codes "wait 2 done value 1" ∷ [])

-- the ninth goes to a second arena
-- limits 16 2 | now 1 1 | then 2 1 - - | then 1 2 - - | then 2 1 - - | then 1 2 - - | then 2 1 - - | then 1 2 - - | then 2 1 - - | then 1 2 - - | wait 1 5
abbrev pub path_of_nine : Script
path_of_nine = script (limits 16 2) [] (
    at 2 (Do (Now 1 (1 ∷ []))) ∷
    at 3 (Do (Then 2 1 None None)) ∷
    at 4 (Do (Then 1 2 None None)) ∷
    at 5 (Do (Then 2 1 None None)) ∷
    at 6 (Do (Then 1 2 None None)) ∷
    at 7 (Do (Then 2 1 None None)) ∷
    at 8 (Do (Then 1 2 None None)) ∷
    at 9 (Do (Then 2 1 None None)) ∷
    at 10 (Do (Then 1 2 None None)) ∷
    at 11 (Wait 1 5) ∷ [])

-- its log
abbrev pub path_of_nine_log : List ℕ
path_of_nine_log = lines (codes "free 1" ∷
    codes "free 2" ∷
    codes "free 3" ∷
    codes "free 4" ∷
    codes "free 5" ∷
    codes "free 6" ∷
    codes "free 7" ∷
    codes "free 8" ∷
    codes "free 9" ∷
    codes "wait 1 done value 1" ∷ [])

-- over a table two leaves take two of eight places
-- limits 8 4 | now 3 0 | now 4 0
abbrev pub two_leaves_in_a_table : Script
two_leaves_in_a_table = script (limits 8 4) [] (
    at 2 (Do (Now 3 (0 ∷ []))) ∷
    at 3 (Do (Now 4 (0 ∷ []))) ∷ [])

-- its log
abbrev pub two_leaves_in_a_table_log : List ℕ
two_leaves_in_a_table_log = lines (codes "free 1" ∷
    codes "free 2" ∷ [])

-- over arenas each leaf takes an arena, and there is one alone
-- limits 8 4 | now 3 0 | now 4 0
abbrev pub two_leaves_in_arenas : Script
two_leaves_in_arenas = script (limits 8 4) [] (
    at 2 (Do (Now 3 (0 ∷ []))) ∷
    at 3 (Do (Now 4 (0 ∷ []))) ∷ [])

-- its log
abbrev pub two_leaves_in_arenas_log : List ℕ
two_leaves_in_arenas_log = lines (codes "refused 3 full" ∷
    codes "free 1" ∷ [])

-- the nodes of a request stand in two arenas where their rows are counted, but in one once they are built
-- limits 16 4 | begin 1 7 5 | now 2 0 | now 3 0
abbrev pub request_in_one_arena : Script
request_in_one_arena = script (limits 16 4) [] (
    at 2 (Do (Begin 1 7 (5 ∷ []))) ∷
    at 3 (Do (Now 2 (0 ∷ []))) ∷
    at 4 (Do (Now 3 (0 ∷ []))) ∷ [])

-- its log
abbrev pub request_in_one_arena_log : List ℕ
request_in_one_arena_log = lines (codes "refused 4 full" ∷
    codes "free 1" ∷
    codes "free 2" ∷
    codes "free 3" ∷
    codes "free 4" ∷
    codes "free 5" ∷ [])

-- the place of a freed node isn't used again while its arena has a live node: the step finds the store full
-- limits 8 4 | step 20 | now 5 | value | later 1 | then 2 1 20 - | then 3 2 - 30 | detach 3 | turn | now 6
abbrev pub no_place_twice : Script
no_place_twice = script (limits 8 4) (
    body 20 (Now 5 [] ∷ []) (Give []) ∷ []) (
    at 5 (Do (Later 1)) ∷
    at 6 (Do (Then 2 1 (Some 20) None)) ∷
    at 7 (Do (Then 3 2 None (Some 30))) ∷
    at 8 (Do (Detach 3)) ∷
    at 9 Turn ∷
    at 10 (Do (Now 6 [])) ∷ [])

-- its log
abbrev pub no_place_twice_log : List ℕ
no_place_twice_log = lines (codes "free 1" ∷
    codes "run 2 20 value" ∷
    codes "free 2" ∷
    codes "run 3 30 throw failed 9" ∷
    codes "free 3" ∷
    codes "free 4" ∷
    codes "free 5" ∷ [])

-- a chain takes two places before its source; the arena has one left
-- limits 8 4 | now 1 | then 2 1 - - | then 1 2 - - | then 2 1 - - | then 1 2 - - | then 2 1 - - | then 1 2 - - | chain 2 1 - - | then 2 1 - -
abbrev pub chain_over_the_first_place : Script
chain_over_the_first_place = script (limits 8 4) [] (
    at 2 (Do (Now 1 [])) ∷
    at 3 (Do (Then 2 1 None None)) ∷
    at 4 (Do (Then 1 2 None None)) ∷
    at 5 (Do (Then 2 1 None None)) ∷
    at 6 (Do (Then 1 2 None None)) ∷
    at 7 (Do (Then 2 1 None None)) ∷
    at 8 (Do (Then 1 2 None None)) ∷
    at 9 (Do (Chain 2 1 None None)) ∷
    at 10 (Do (Then 2 1 None None)) ∷ [])

-- its log
abbrev pub chain_over_the_first_place_log : List ℕ
chain_over_the_first_place_log = lines (codes "refused 9 full" ∷
    codes "free 1" ∷
    codes "free 2" ∷
    codes "free 3" ∷
    codes "free 4" ∷
    codes "free 5" ∷
    codes "free 6" ∷
    codes "free 7" ∷
    codes "free 8" ∷ [])

-- a refused command ends the step with code 9: what came before stays, the rest isn't done, and the step for exceptions of the same Then doesn't run
-- step 10 | now 5 1 | fulfil 9 | now 6 2 | value | later 1 | then 2 1 10 11 | wait 2 1 | wait 5 1 | wait 6 1
abbrev pub refused_in_a_step : Script
refused_in_a_step = script None (
    body 10 (Now 5 (1 ∷ []) ∷ Fulfil 9 [] ∷ Now 6 (2 ∷ []) ∷ []) (Give []) ∷ []) (
    at 6 (Do (Later 1)) ∷
    at 7 (Do (Then 2 1 (Some 10) (Some 11))) ∷
    at 8 (Wait 2 1) ∷
    at 9 (Wait 5 1) ∷
    at 10 (Wait 6 1) ∷ [])

-- its log
abbrev pub refused_in_a_step_log : List ℕ
refused_in_a_step_log = lines (codes "free 1" ∷
    codes "run 2 10 value" ∷
    codes "free 2" ∷
    codes "wait 2 done throw failed 9" ∷
    codes "free 3" ∷
    codes "wait 5 done value 1" ∷
    codes "refused 10 unknown 6" ∷ [])

-- four nodes of sixteen live, but both arenas are taken; one is free again when its last node went
-- limits 16 8 | now 1 | now 2 | then 3 1 - - | then 4 2 - - | now 5 | drop 3 | now 5
abbrev pub full_by_places : Script
full_by_places = script (limits 16 8) [] (
    at 2 (Do (Now 1 [])) ∷
    at 3 (Do (Now 2 [])) ∷
    at 4 (Do (Then 3 1 None None)) ∷
    at 5 (Do (Then 4 2 None None)) ∷
    at 6 (Do (Now 5 [])) ∷
    at 7 (Do (Drop 3)) ∷
    at 8 (Do (Now 5 [])) ∷ [])

-- its log
abbrev pub full_by_places_log : List ℕ
full_by_places_log = lines (codes "refused 6 full" ∷
    codes "free 1" ∷
    codes "free 3" ∷
    codes "free 2" ∷
    codes "free 4" ∷
    codes "free 5" ∷ [])

-- a source gives its name's place to the new name; a third name is too much
-- limits 16 2 | now 1 | now 2 | then 3 1 - - | pair 3 4 | now 5
abbrev pub full_of_names : Script
full_of_names = script (limits 16 2) [] (
    at 2 (Do (Now 1 [])) ∷
    at 3 (Do (Now 2 [])) ∷
    at 4 (Do (Then 3 1 None None)) ∷
    at 5 (Do (Pair 3 4)) ∷
    at 6 (Do (Now 5 [])) ∷ [])

-- its log
abbrev pub full_of_names_log : List ℕ
full_of_names_log = lines (codes "refused 5 taken 3" ∷
    codes "refused 6 full" ∷
    codes "free 2" ∷
    codes "free 1" ∷
    codes "free 3" ∷ [])
