-- What a call writes stands behind what was written before it.
use Rattle.std.proofs.Common.{rules, arith, ℕ, ◌-◌, length, take, drop, length-take, length-drop, sym, subst}
use Rattle.std.specs.Io.KnownBytes.{Appends}
use Rattle.std.proofs.KnownBytes.{Appends-kept}
use Rattle.program.proofs.Reading.{written_behind}
use Rattle.program.proofs.write_all.Goals.{in-Ok, in-Err+else-ne}
use Rattle.program.proofs.write_all.Goals as goal

pub loop-preserved : goal.loop-preserved
loop-preserved g c = elim c.match-write.branch [
  | in-Ok w ↦ (
    omega (arith, w.n-is, w.in-Ok.ensures.bound, length-take (length c.args.buf.now - c.loop.n) (drop c.loop.n c.args.buf.now), length-drop c.loop.n c.args.buf.now),
    subst (λ (m : ℕ). Appends (g.W.Write.contents c.args.writer.now) (g.W.Write.contents c.write.new.self)
        (take m c.args.buf.now))
        (sym w.n-is)
        (written_behind _ _ _ c.loop.n w.in-Ok.more _ c.args.buf.now (search rules)
        c.loop.invariant.1 w.in-Ok.ensures.bytes),
  )
  | in-Err+else-ne w ↦ (
    search rules,
    subst (λ (m : ℕ). Appends (g.W.Write.contents c.args.writer.now) (g.W.Write.contents c.write.new.self)
        (take m c.args.buf.now))
        (sym w.n-is)
        (Appends-kept _ _ _ _ c.loop.invariant.1 w.in-Err.ensures.bytes),
  )
]
