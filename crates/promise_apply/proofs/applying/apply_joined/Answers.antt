use Rattle.std.proofs.Common.{◌≡◌, ℕ, List, [], ◌∷◌, ◌++◌, None, false, IsTrue, refl, sym, ap, subst, ◌∙◌, length, arith}
use Rattle.std.specs.Prelude.{map}
use Rattle.std.proofs.lemmas.Bool.{false≢true}
use Rattle.kj_base.specs.Places.{Row, row}
use Rattle.kj_model.specs.Uses.{Use, use_as, used_as, new_over, IsNew, IsSource, first_failing, is_wrong}
use Rattle.kj_model.specs.Apply.{anew, before_source, is_none}
use Rattle.promise_commands.specs.Commands.{name_numbers}
use Rattle.promise_nodes.specs.Kept.{rows_seen}
use Rattle.promise_apply.specs.Applying.{refused_for, count_new, count_sources}
use Rattle.promise_apply.specs.Building.{Both}
use Rattle.promise_apply.specs.Joining.{AreSources, FitsJoined, joined_built, rows_before, tree_rows, source_names, source_trees}
use Rattle.promise_apply.specs.Uses.{uses_shown}
use Rattle.promise_apply.proofs.Refused.{refused_so, done_applies}
use Rattle.promise_apply.proofs.Passed.{new_absent, sides_listless}
use Rattle.promise_apply.proofs.Several.{rows_known, held_known, rest_wrong, rest_unknown, all_found, one_new, all_go, numbers_long}
use Rattle.promise_apply.proofs.Sided.{rows_same, names_long}
use Rattle.promise_apply.proofs.applying.apply_joined.Goals as goal

not_none : (rows : List Row) (r : Row) → is_none (rows ++ r ∷ []) ≡ false
not_none [] r = refl
not_none (x ∷ xs) r = refl

pub returns-in_err-check-clause-applied : goal.returns-in_err-check-clause-applied
returns-in_err-check-clause-applied g c cmd is =
    let name = c.args.name.0 in
    let ns = name_numbers c.args.wanted.now in
    let roots = g.M.Names.roots c.args.names.now in
    let rowed = rows_seen c.as_slice-rows.result.now in
    let uses : uses_shown c.as_slice-uses.result.now ≡ new_over name ns = ap uses_shown c.as_slice-uses.ensures.value ∙ c.joined_uses-uses.ensures in
    let rows : rowed ≡ rows_before roots ns ++ row None 1 ∷ [] = ap rows_seen c.as_slice-rows.ensures.value ∙ c.joined_rows-rows.ensures in
    refused_so (Both (g.N.Nodes.stands c.args.nodes.now) (g.M.Names.stands c.args.names.now)) g.N.Nodes.rule c.from_residual.result c.in_err-check.field-0.0 cmd (new_over name ns) rowed (λ w. map (λ source. before_source 1 source w) ns ++ anew 1 ∷ []) (joined_built c.args.kind name ns) c.from_residual.ensures.1 is
    (λ w old. c.in_err-check.ensures.refusal w old ∙ ap (λ (us : List Use). refused_for g.N.Nodes.rule us rowed w) uses)
    (λ w old p. rows ∙ ap (λ (rs : List Row). rs ++ row None 1 ∷ []) (rows_known roots ns w (use_as IsNew name ∷ []) (λ n r h. g.met.M.Names.roots_are c.args.names.now w n r old.1 h) (rest_wrong name ns w p)))

pub returns-in-Some-clause-applied : goal.returns-in-Some-clause-applied
returns-in-Some-clause-applied g c cmd is =
    let name = c.args.name.0 in
    let ns = name_numbers c.args.wanted.now in
    let roots = g.M.Names.roots c.args.names.now in
    let slice = c.as_slice-found.result.now in
    let rowed = rows_seen c.as_slice-rows.result.now in
    let uses : uses_shown c.as_slice-uses.result.now ≡ new_over name ns = ap uses_shown c.as_slice-uses.ensures.value ∙ c.joined_uses-uses.ensures in
    let rows : rowed ≡ rows_before roots ns ++ row None 1 ∷ [] = ap rows_seen c.as_slice-rows.ensures.value ∙ c.joined_rows-rows.ensures in
    let same : source_names slice ≡ ns = ap source_names c.as_slice-found.ensures.value ∙ c.in-Some.ensures.names in
    let all : AreSources roots slice = subst (AreSources roots) (sym c.as_slice-found.ensures.value) c.in-Some.ensures.sources in
    done_applies (Both (g.N.Nodes.stands c.args.nodes.now) (g.M.Names.stands c.args.names.now)) (Both (g.N.Nodes.stands c.build_joined.new.nodes) (g.M.Names.stands c.build_joined.new.names)) g.N.Nodes.rule cmd (new_over name ns) rowed (λ w. map (λ source. before_source 1 source w) ns ++ anew 1 ∷ []) (joined_built c.args.kind name ns) is
    (λ w old. sym (c.in_ok-check.ensures.refusal w old ∙ ap (λ (us : List Use). refused_for g.N.Nodes.rule us rowed w) uses))
    (λ w old p. rows ∙ ap (λ (rs : List Row). rs ++ row None 1 ∷ []) (rows_known roots ns w (use_as IsNew name ∷ []) (λ n r h. g.met.M.Names.roots_are c.args.names.now w n r old.1 h) (rest_wrong name ns w p)))
    (λ w old p.
    let wrong = subst (λ (l : List ℕ). first_failing (is_wrong w) (use_as IsNew name ∷ []) (used_as IsSource l) ≡ None) (sym same) (rest_wrong name ns w p) in
    let held = held_known roots slice w (use_as IsNew name ∷ []) (λ n r h. g.met.M.Names.roots_are c.args.names.now w n r old.1 h) all wrong in
    subst (λ (l : List ℕ). Both (g.N.Nodes.stands c.build_joined.new.nodes) (g.M.Names.stands c.build_joined.new.names) (joined_built c.args.kind name l w)) same
    (c.build_joined.ensures.stands w old held (sides_listless name (source_names slice) w (new_absent name (used_as IsSource ns) w p))))

pub returns-in-None-clause-applied : goal.returns-in-None-clause-applied
returns-in-None-clause-applied g c cmd is =
    let name = c.args.name.0 in
    let ns = name_numbers c.args.wanted.now in
    let roots = g.M.Names.roots c.args.names.now in
    let rowed = rows_seen c.as_slice-rows.result.now in
    let uses : uses_shown c.as_slice-uses.result.now ≡ new_over name ns = ap uses_shown c.as_slice-uses.ensures.value ∙ c.joined_uses-uses.ensures in
    let rows : rowed ≡ rows_before roots ns ++ row None 1 ∷ [] = ap rows_seen c.as_slice-rows.ensures.value ∙ c.joined_rows-rows.ensures in
    done_applies (Both (g.N.Nodes.stands c.args.nodes.now) (g.M.Names.stands c.args.names.now)) (Both (g.N.Nodes.stands c.args.nodes.now) (g.M.Names.stands c.args.names.now)) g.N.Nodes.rule cmd (new_over name ns) rowed (λ w. map (λ source. before_source 1 source w) ns ++ anew 1 ∷ []) (joined_built c.args.kind name ns) is
    (λ w old. sym (c.in_ok-check.ensures.refusal w old ∙ ap (λ (us : List Use). refused_for g.N.Nodes.rule us rowed w) uses))
    (λ w old p. rows ∙ ap (λ (rs : List Row). rs ++ row None 1 ∷ []) (rows_known roots ns w (use_as IsNew name ∷ []) (λ n r h. g.met.M.Names.roots_are c.args.names.now w n r old.1 h) (rest_wrong name ns w p)))
    (λ w old p. absurd (false≢true (c.in-None.ensures.found ∙ all_found name roots ns [] w (λ n r h. g.met.M.Names.roots_are c.args.names.now w n r old.1 h) (rest_unknown name ns w p) (rest_wrong name ns w p))))

pub build_joined-requires-clause-sources : goal.build_joined-requires-clause-sources
build_joined-requires-clause-sources g c = subst (AreSources (g.M.Names.roots c.args.names.now)) (sym c.as_slice-found.ensures.value) c.in-Some.ensures.sources

pub build_joined-requires-clause-few : goal.build_joined-requires-clause-few
build_joined-requires-clause-few g c =
    let slice = c.as_slice-found.result.now in
    let long = sym (names_long slice) ∙ ap length (ap source_names c.as_slice-found.ensures.value ∙ c.in-Some.ensures.names) ∙ numbers_long c.args.wanted.now in
    let few = c.requires.few_parts in
    omega (arith, long, few)

pub build_joined-requires-clause-kind : goal.build_joined-requires-clause-kind
build_joined-requires-clause-kind g c =
    let slice = c.as_slice-found.result.now in
    let long = sym (names_long slice) ∙ ap length (ap source_names c.as_slice-found.ensures.value ∙ c.in-Some.ensures.names) ∙ numbers_long c.args.wanted.now in
    subst (FitsJoined c.args.kind) (sym long) c.requires.kind

pub build_joined-requires-clause-fits : goal.build_joined-requires-clause-fits
build_joined-requires-clause-fits g c =
    let roots = g.M.Names.roots c.args.names.now in
    let slice = c.as_slice-found.result.now in
    let same : source_names slice ≡ name_numbers c.args.wanted.now = ap source_names c.as_slice-found.ensures.value ∙ c.in-Some.ensures.names in
    let all : AreSources roots slice = subst (AreSources roots) (sym c.as_slice-found.ensures.value) c.in-Some.ensures.sources in
    let rows : rows_seen c.as_slice-rows.result.now ≡ tree_rows (source_trees slice) ++ row None 1 ∷ [] =
    ap rows_seen c.as_slice-rows.ensures.value ∙ c.joined_rows-rows.ensures
    ∙ ap (λ (l : List ℕ). rows_before roots l ++ row None 1 ∷ []) (sym same)
    ∙ ap (λ (rs : List Row). rs ++ row None 1 ∷ []) (rows_same roots slice all) in
    subst (λ (rs : List Row). IsTrue (g.N.Nodes.room c.args.nodes.now rs)) rows c.in_ok-check.ensures.room.fits

pub build_joined-requires-clause-numbers : goal.build_joined-requires-clause-numbers
build_joined-requires-clause-numbers g c =
    let rows = ap rows_seen c.as_slice-rows.ensures.value ∙ c.joined_rows-rows.ensures in
    c.in_ok-check.ensures.room.numbered (ap is_none rows ∙ not_none (rows_before (g.M.Names.roots c.args.names.now) (name_numbers c.args.wanted.now)) (row None 1))

pub build_joined-requires-clause-room : goal.build_joined-requires-clause-room
build_joined-requires-clause-room g c =
    let slice = c.as_slice-found.result.now in
    let ns = name_numbers c.args.wanted.now in
    let long = sym (names_long slice) ∙ ap length (ap source_names c.as_slice-found.ensures.value ∙ c.in-Some.ensures.names) in
    let uses = ap uses_shown c.as_slice-uses.ensures.value ∙ c.joined_uses-uses.ensures in
    let new = ap count_new uses ∙ one_new c.args.name.0 ns in
    let go = ap count_sources uses ∙ all_go c.args.name.0 ns in
    let named = c.in_ok-check.ensures.room.named in
    omega (arith, long, new, go, named)

pub returns-in-Some-clause-few : goal.returns-in-Some-clause-few
returns-in-Some-clause-few g c =
    let slice = c.as_slice-found.result.now in
    let ns = name_numbers c.args.wanted.now in
    let long = sym (names_long slice) ∙ ap length (ap source_names c.as_slice-found.ensures.value ∙ c.in-Some.ensures.names) in
    let uses = ap uses_shown c.as_slice-uses.ensures.value ∙ c.joined_uses-uses.ensures in
    let new = ap count_new uses ∙ one_new c.args.name.0 ns in
    let go = ap count_sources uses ∙ all_go c.args.name.0 ns in
    let named = c.in_ok-check.ensures.room.named in
    let few = c.build_joined.ensures.few in
    let limit = c.build_joined.ensures.limit in
    omega (arith, long, new, go, named, few, limit)
