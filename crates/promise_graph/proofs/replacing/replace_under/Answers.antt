use Rattle.std.proofs.Common.{◌∙◌, sym, ap, refl, subst}
use Rattle.promise_nodes.specs.Kept.{OnlyFalls, OnlyRises, put_form}
use Rattle.promise_graph.specs.declared.fields.Marks.{Marks}
use Rattle.promise_graph.specs.Kept.{IsKept, Falls, taker_at, is_listed, is_plain}
use Rattle.promise_graph.specs.Standing.{IsSeen}
use Rattle.promise_graph.proofs.Replaced.{Swapped, kept_swapped, taken_swapped, stands_swapped}
use Rattle.promise_graph.proofs.replacing.replace_under.Goals as goal

pub returns : goal.returns
returns g c =
    let at = g.St.Store.node_at c.args.g.now.store in
    let placed = c.set_form.new.g in
    let new = g.St.Store.node_at placed.store in
    let m = c.args.g.now.marks in
    let last = c.take_part.new.marks in
    let is = c.set_form.ensures.marks in
    let f : Swapped at new m last c.args.owner.slot.0 c.args.owner.number.0 c.args.old c.args.new.number.0 c.args.form = record {
      numbered = c.requires.kept.sound.numbered;
      live = c.requires.live;
      changed = c.set_form.ensures.changed;
      others = c.set_form.ensures.nodes;
      replaced = c.requires.form;
      root = c.requires.root;
      built = c.requires.built;
      same = c.take_part.ensures.others ∙ ap (λ (x : Marks). record x { owners = last.owners }) is;
      all = c.take_part.ensures.all ∙ ap (λ (x : Marks). x.slots) is;
      takes = c.take_part.ensures.here;
      keeps = λ s d. c.take_part.ensures.elsewhere s d ∙ ap (λ (x : Marks). taker_at x s) is;
    } in
    let kept = kept_swapped at new m last _ _ _ _ c.args.form f _ _ _ _
    (subst (λ (x : Marks). IsKept new (g.St.Store.is_bare placed.store) (g.Q.Queue.events placed.queue) (g.St.Store.slots placed.store) (g.Q.Queue.size placed.queue) x) is c.set_form.ensures.kept) in
    let falls : Falls at new m m = subst (λ (x : Marks). Falls at new m x) is c.set_form.ensures.falls in
    record {
      kept = kept;
      stands = λ w st live sees. stands_swapped at new m last _ _ _ _ c.args.form f _ _ _ _ c.args.owner w refl st live sees
          (subst (λ (x : Marks). IsSeen new (g.Q.Queue.events placed.queue) (g.St.Store.stands placed.store) x (put_form c.args.owner.number.0 c.args.form w)) is (c.set_form.ensures.seen w st.seen));
      taken = taken_swapped at new m last _ _ _ _ c.args.form f kept.sound.numbered;
      listed = subst (λ (x : Marks). OnlyFalls (is_listed at m) (is_listed new x)) (sym f.same) falls.listed;
      plain = subst (λ (x : Marks). OnlyRises (is_plain at m) (is_plain new x)) (sym f.same) falls.plain;
      next = ap (λ (x : Marks). x.next) f.same;
      slots = ap (λ (x : Marks). x.slots) f.same;
      numbers = ap (λ (x : Marks). x.numbers.items) f.same;
    }
