use Rattle.std.proofs.Common.{◌≡◌, ◌∙◌, codes, length, arith}
use Rattle.http_heads.proofs.MarkLemmas.{other_name, marked_as}
use Rattle.http_heads.proofs.marks.mark.Goals as goal

pub returns-then-len-eq4 : goal.returns-then-len-eq4
returns-then-len-eq4 c =
    let f = c.args.field.now in
    let n = c.len-len.result in
    let size : n ≡ length f.name = c.len-len.ensures in
    c.with_marks.ensures ∙ marked_as c.args.marks f _ _ _ _ c.is_named.ensures (other_name (codes "transfer-encoding") f n size (λ e. omega arith)) (other_name (codes "content-length") f n size (λ e. omega arith)) (other_name (codes "connection") f n size (λ e. omega arith))

pub returns : goal.returns
returns c =
    let f = c.args.field.now in
    let n = c.len-len.result in
    let size : n ≡ length f.name = c.len-len.ensures in
    c.with_marks-2.ensures ∙ marked_as c.args.marks f _ _ _ _ (other_name (codes "host") f n size (λ e. omega arith)) (other_name (codes "transfer-encoding") f n size (λ e. omega arith)) (other_name (codes "content-length") f n size (λ e. omega arith)) (other_name (codes "connection") f n size (λ e. omega arith))

pub returns-then-len-eq17 : goal.returns-then-len-eq17
returns-then-len-eq17 c =
    let f = c.args.field.now in
    let n = c.len-len.result in
    let size : n ≡ length f.name = c.len-len.ensures in
    c.with_marks-then-len-eq17.ensures ∙ marked_as c.args.marks f _ _ _ _ (other_name (codes "host") f n size (λ e. omega arith)) c.is_named-then-len-eq17.ensures (other_name (codes "content-length") f n size (λ e. omega arith)) (other_name (codes "connection") f n size (λ e. omega arith))

pub returns-then-len-eq14 : goal.returns-then-len-eq14
returns-then-len-eq14 c =
    let f = c.args.field.now in
    let n = c.len-len.result in
    let size : n ≡ length f.name = c.len-len.ensures in
    c.with_marks-then-len-eq14.ensures ∙ marked_as c.args.marks f _ _ _ _ (other_name (codes "host") f n size (λ e. omega arith)) (other_name (codes "transfer-encoding") f n size (λ e. omega arith)) c.is_named-then-len-eq14.ensures (other_name (codes "connection") f n size (λ e. omega arith))

pub returns-then-len-eq10 : goal.returns-then-len-eq10
returns-then-len-eq10 c =
    let f = c.args.field.now in
    let n = c.len-len.result in
    let size : n ≡ length f.name = c.len-len.ensures in
    c.with_marks-then-len-eq10.ensures ∙ marked_as c.args.marks f _ _ _ _ (other_name (codes "host") f n size (λ e. omega arith)) (other_name (codes "transfer-encoding") f n size (λ e. omega arith)) (other_name (codes "content-length") f n size (λ e. omega arith)) c.is_named-then-len-eq10.ensures
