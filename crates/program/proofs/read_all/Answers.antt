-- What a call reads stands behind what was read before it.
use Rattle.std.proofs.Common.{rules, arith, ◌≡◌, ℕ, ◌-◌, ◌≤◌, length, take, sym, subst}
use Rattle.std.specs.Io.KnownBytes.{Consumes}
use borrow.Rule.Slice.PartMut.{put_mid}
use Rattle.program.proofs.Reading.{read_behind, read_nothing}
use Rattle.program.proofs.read_all.Goals.{in-Ok, in-Err+else-ne}
use Rattle.program.proofs.read_all.Goals as goal

pub loop-preserved : goal.loop-preserved
loop-preserved g c = elim c.match-read.branch [
  | in-Ok w ↦ (
    let same : length (put_mid c.loop.n (length c.loop.buf - c.loop.n) c.loop.buf c.read.new.buf) ≡ length c.loop.buf = search rules in
        let room : length c.read.new.buf ≤ length c.loop.buf - c.loop.n = search rules in
        omega (arith, same, room, w.n-is, w.in-Ok.ensures.bound.0),
    search rules,
    subst (λ (m : ℕ). Consumes (g.R.Read.remaining c.args.reader.now) (g.R.Read.remaining c.read.new.self)
        (take m (put_mid c.loop.n (length c.loop.buf - c.loop.n) c.loop.buf c.read.new.buf)))
        (sym w.n-is)
        (read_behind _ _ _ c.loop.n w.in-Ok.more _ c.loop.buf c.read.new.buf c.loop.invariant.0
        (search rules) c.loop.invariant.2 w.in-Ok.ensures.bytes.0),
  )
  | in-Err+else-ne w ↦ (
    search rules,
    search rules,
    subst (λ (m : ℕ). Consumes (g.R.Read.remaining c.args.reader.now) (g.R.Read.remaining c.read.new.self)
        (take m (put_mid c.loop.n (length c.loop.buf - c.loop.n) c.loop.buf c.read.new.buf)))
        (sym w.n-is)
        (read_nothing _ _ _ c.loop.n _ c.loop.buf c.read.new.buf c.loop.invariant.0 c.loop.invariant.2
        w.in-Err.ensures.bytes),
  )
]
