-- Kept: without each of these the check finds no proof at half its limits (tried one by one).
use Rattle.std.proofs.Common.{ℕ, ◌+◌, ◌≤◌, List, set, None, Option, sym, ap, ◌∙◌, subst}
use Rattle.std.specs.Option.{option_map}
use Rattle.bounds.specs.declared.bar.Bar.{Bar}
use Rattle.bounds.specs.declared.end.Ends.{Ends}
use Rattle.network.specs.Nets.{leaves, enters}
use Rattle.network.specs.Rounds.{held, Sweep, noted_at}
use Rattle.network.proofs.Steps.{joined_inside, revised_read, revised_moves}
use Rattle.network.proofs.solve.step.Goals as goal

-- the table with these ends at event x
abbrev swept : List Ends → ℕ → Ends → ℕ → Option Bar → Sweep
swept t x ends moves bar = record { table = set t x ends; moves = moves; bar = bar }

pub returns-in-None : goal.returns-in-None
returns-in-None c =
    let r = c.args.rule.now in
    let w = c.args.way in
    let t = c.args.ends.now in
    let in' = joined_inside _ r w c.requires in
    let v = c.revise-revision.result in
    let read = c.revise-revision.ensures ∙ revised_read c.args.events r.gap w t _ c.from.result c.from-2.result (enters r w) (leaves r w) (c.from.ensures ∙ c.enters-target.ensures) (c.from-2.ensures ∙ c.leaves-source.ensures) in'.1 in'.0 in
    let few = revised_moves c.args.events r.gap w (held t (enters r w)) (held t (leaves r w)) in (
      subst (λ m. m ≤ 2) (ap (λ v. v.moves) (sym read) ∙ sym c.from-in-None.ensures) few,
      λ before.
          ap (λ v. noted_at (enters r w) (record { table = t; moves = before; bar = None }) v) (sym read)
          ∙ ap (λ b. swept t (enters r w) v.ends (before + v.moves) (option_map (λ cause. record { cause = cause; event = enters r w }) b)) c.in-None.is
          ∙ ap (λ k. swept t k v.ends (before + v.moves) None) (sym (c.from-3.ensures ∙ c.enters-target.ensures))
          ∙ ap (λ m. swept t c.from-3.result v.ends (before + m) None) (sym c.from-in-None.ensures),
    )
