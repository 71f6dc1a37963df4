-- An owner owns nothing, so that any table and number may stand in it.
use Rattle.atomic_table.proofs.Names.{◌≡◌, ℕ, ◌^◌, ◌<◌, [], ◌∷◌, refl, w64, a_type, named, Val, vint, vptr, vstruct, vcons, vnil, inst_fn, SProp, emp, ‵, raw, ◌⊛◌, ◌$◌, ◌∵◌, !, qed, by, keep, split, fjoin, use0, no_more, and_then, returns, enter, alloc_all, pass_all, free_all, look_at, get, sets, agg, tables, yes, RattleType, owns, types_at, plain, nothing, param, layouts, alive, Stays, stay_dropped, walk_of, Goes-dropped, fact, fact_i, RefOf, u64, shr_vals, shr_Tells, uint_vals, uint_Tells, makes_shadow}
use denote.Struct.Struct.{Struct}
use denote.Struct.Owning.{shape}
use Rattle.atomic_table.proofs.Walks.{proved, leaves}
use Rattle.atomic_table.specs.contracts.shared.Seat as seat
use Rattle.count_lock.specs.contracts.owner.Owner as owner
use Rattle.count_lock.specs.contracts.owner.Owner.of.{ended, clauses}
use Rattle.count_lock.specs.contracts.owner.Owner.of.Key.{name as #self}
use Rattle.count_lock.proofs.owner.Owner.of.Statement.{statement}
use Rattle.count_lock.proofs.owner.Owner.of.Code as code

abbrev token_val : Val
token_val = vstruct (vcons (vstruct vnil) vnil)

abbrev Data : RattleType
Data = Struct (shape owner.the_type)

pub of_spec : {M : Type 1} → statement M
of_spec 𝓤 𝓛 𝓜 𝓡 wired T U _ _ =
    let H = 𝓛.H in let 𝓣 = tables 𝓤 H 𝓜 𝓡 𝓡.env in let R : RattleType = param 0 T in let W : RattleType = param 1 U in let En = ended T U in let c = clauses T U 𝓛 𝓜.mem 𝓡.returns in
    let inst = layouts (a_type ∷ a_type ∷ []) (T, (U, tt)) in let fn = inst_fn inst code.function in let closed = code.unfolded 𝓤 H 𝓜 𝓡 wired (T, (U, tt)) in
    let Sr : RattleType = seat.the_row R W in let Or : RattleType = owner.the_row in
    let hs : Stays En.signature.params En.kept = (stay_dropped (RefOf (0 ∷ []) tt (plain (λ _. Sr)) (λ _. tt)) yes, (stay_dropped (plain (λ _. u64)) yes, tt)) in
    proved 𝓛 En hs c 𝓜 𝓡 (Goes-dropped 𝓛 3 (RefOf (0 ∷ []) tt (plain (λ _. Sr)) (λ _. tt)) yes (λ κs x f. refl), (Goes-dropped 𝓛 3 (plain (λ _. u64)) yes (λ κs x f. refl), tt)) (#self inst) fn closed
    (λ κs. (shr_vals, (uint_vals w64, tt))) (λ κs. (shr_Tells (named 0) κs.0 Sr, (uint_Tells w64, tt))) (λ κs qs bounds a gh are.
    let at : Val = vptr a.0.ref_ptr.0 a.0.ref_ptr.1 in let n : ℕ = a.1.0 in let fits : n < 2 ^ 64 = are.1.0.1 in
    let r : Or.Denot = record { marker = record {}; table_id = a.0.now.table_id; number = n } in let Told : Type 0 = (r.table_id ≡ r.table_id) × (r.number ≡ r.number) in
    let y : (walk_of 𝓛 En hs c).Ghost = ((κs, qs, bounds, a, (at ∷ [], (vint w64 n ∷ [], tt))), gh) in let Post : Val → SProp 𝓤 = (walk_of 𝓛 En hs c).post y in
    qed 𝓛 ((raw (alive 𝓛 En.signature κs qs) ⊛ ‵ (owns (types_at En.signature.params κs) a y.0.4)) ∷ raw ((c κs a).requires gh) ∷ []) ∵
    split ! $ keep ! (0 ∷ []) $ nothing ! $ use0 𝓛 (‵ (Data.own_val (tt, tt) (token_val ∷ []))) (makes_shadow 𝓛 (Data.own_val (tt, tt) (token_val ∷ [])) (λ vss. (tt, ((λ uss. (tt, tt)), tt))) ((vstruct vnil ∷ [], tt), (refl, ((tt, (refl, tt)), tt)))) $ fjoin ! $
    enter ! 𝓣.C 𝓣.Λ fn (at ∷ vint w64 n ∷ []) Post $ alloc_all ! (λ l. pass_all ! refl ((tt, tt), ((tt, record { fits = fits }), tt)) $
    sets ! (agg ! (no_more !)) refl (tt, tt) $ sets ! (agg ! (and_then ! (get ! refl) (no_more !))) refl (tt, (tt, tt)) $
    use0 𝓛 (raw (fact 𝓤 Told)) (fact_i 𝓤 Told (emp 𝓤) (refl, refl)) $ nothing ! $ nothing ! $ fjoin ! $ nothing ! $ fjoin ! $
    returns ! (look_at ! 0 refl) $ free_all ! refl $ keep ! (3 ∷ 0 ∷ 2 ∷ 1 ∷ []) $ by ! (leaves 𝓛 En hs c y token_val r (tt, (tt, tt)) (tt, (tt, tt)))))
