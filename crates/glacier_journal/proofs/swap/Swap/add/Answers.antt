use Rattle.std.proofs.Common.{◌+◌, ◌++◌, [], ◌∷◌, List, ℕ, sym, subst, arith}
use Rattle.glacier_disk.specs.Image.{Becomes, put}
use Rattle.glacier_journal.specs.Listed.{Lists}
use Rattle.glacier_journal.proofs.AppendLemmas.{length-framed}
use Rattle.glacier_journal.proofs.SwapLemmas.{added}
use Rattle.glacier_journal.proofs.SyncLemmas.{up_to_start, up_to_write}
use Rattle.glacier_journal.proofs.swap.Swap.add.Goals as goal

pub returns-then-length-gt-MOST_LENGTH-clause-writes : goal.returns-then-length-gt-MOST_LENGTH-clause-writes
returns-then-length-gt-MOST_LENGTH-clause-writes g c t = up_to_start c.args.self.area _ (g.met.D.Disk.lawful t c.args.disk.now)

pub returns-in_err-write_at-clause-writes : goal.returns-in_err-write_at-clause-writes
returns-in_err-write_at-clause-writes g c t =
    let more = length-framed c.args.frame.now c.bytes-bytes.result.now c.bytes-bytes.ensures.framed in
    up_to_write (up_to_start c.args.self.area _ (g.met.D.Disk.lawful t c.args.disk.now)) (omega (arith, more)) (c.write_at.ensures.writes t)

pub returns-in_err-write_at-2-clause-writes : goal.returns-in_err-write_at-2-clause-writes
returns-in_err-write_at-2-clause-writes g c t =
    let more = length-framed c.args.frame.now c.bytes-bytes.result.now c.bytes-bytes.ensures.framed in
    up_to_write (up_to_write (up_to_start c.args.self.area _ (g.met.D.Disk.lawful t c.args.disk.now)) (omega (arith, more)) (c.write_at.ensures.writes t))
    (omega (arith, c.args.self.enough)) (c.write_at-2.ensures.writes t)

pub returns-clause-writes : goal.returns-clause-writes
returns-clause-writes g c t =
    let more = length-framed c.args.frame.now c.bytes-bytes.result.now c.bytes-bytes.ensures.framed in
    up_to_write (up_to_write (up_to_start c.args.self.area _ (g.met.D.Disk.lawful t c.args.disk.now)) (omega (arith, more)) (c.write_at.ensures.writes t))
    (omega (arith, c.args.self.enough)) (c.write_at-2.ensures.writes t)

pub returns-clause-added : goal.returns-clause-added
returns-clause-added g c t payloads lists =
    let old = (g.D.Disk.told c.args.disk.now).reads in
    let mid = (g.D.Disk.told c.write_at.new.self).reads in
    let new = (g.D.Disk.told c.write_at-2.new.self).reads in
    let payload = c.args.frame.now in
    let written = subst (λ (l : List ℕ). Becomes c.args.self.area (put c.args.self.length l (old c.args.self.area)) old mid)
    c.bytes-bytes.ensures.framed (c.in_ok-write_at.ensures.writes t).written in
    let more = length-framed payload c.bytes-bytes.result.now c.bytes-bytes.ensures.framed in
    subst (λ (n : ℕ). Lists (new c.args.self.area) (payloads ++ payload ∷ []) (c.args.self.length + n)) (sym more)
    (added old mid new c.args.self.area payloads c.args.self.length payload c.bytes-bytes.ensures.short lists written
    (c.in_ok-write_at-2.ensures.writes t).written)
