use Rattle.std.proofs.Common.{◌≡◌, ◌≤◌, ◌<◌, ℕ, ◌+◌, ◌-◌, min, List, Some, length, take, drop, refl, sym, ◌∙◌, ap, subst, arith}
use Rattle.std.specs.Prelude.{IfSome}
use Rattle.glacier_bodies.specs.BlobAreas.{bytes_of}
use Rattle.glacier_disk.specs.Told.{Lawful}
use Rattle.glacier_vault.specs.Accounts.{account_in}
use Rattle.glacier_replay.specs.Standing.{IsTold}
use Rattle.glacier_store.specs.Outputs.{archive_in, archive_bytes}
use Rattle.glacier_store.proofs.OutputLemmas.{of_stored, stretch_read}
use Rattle.glacier_store.proofs.store.Store.read_output.Goals as goal

pub returns-clause-bytes : goal.returns-clause-bytes
returns-clause-bytes g c t state same held =
    let old = g.D.Disk.told c.args.disk.now in
    let account = c.args.account.now in
    let stretch = c.args.stretch.now in
    let archive = c.in-Some.archive.now in
    let law : Lawful old = g.met.D.Disk.lawful t c.args.disk.now in
    let stored : archive_in state.accounts account stretch ≡ Some archive = ap (λ accounts. archive_in accounts account stretch) same ∙ sym c.in-Some.ensures in
    let told : IsTold state.bodies account archive.size archive.leaves archive.blobs =
    of_stored (IsTold state.bodies account) (account_in state.accounts account) stretch.vault stretch.archive archive ((held.state_is old.reads law.reads_left).tells.told account) stored in
    let bytes = bytes_of state.bodies account archive.blobs in
    let fits : c.min-end.result < 18446744073709551616 = c.min-end.type_inv in
    let read = subst (λ (blobs : List ℕ). IsTold state.bodies account archive.size archive.leaves blobs → c.saturating_add-place.result + length (take c.min-n.result c.args.into.now) ≤ archive.size
    → c.read_body.new.into ≡ take (length (take c.min-n.result c.args.into.now)) (drop c.saturating_add-place.result (bytes_of state.bodies account blobs)))
    c.as_slice.ensures (c.in_ok-read_body.ensures.bytes t state archive.size archive.leaves held) in
    let part : length c.read_body.new.into ≡ length (take c.min-n.result c.args.into.now) = c.read_body.auto.into in
    let count = c.min-n.ensures ∙ ap (min (length c.args.into.now)) c.saturating_sub.ensures in
    stretch_read bytes stretch.first stretch.end c.args.at (length c.args.into.now) c.min-n.result archive.size 18446744073709551615 c.saturating_add-place.result c.min-end.result
    c.args.into.now c.read_body.new.into (drop c.min-n.result c.args.into.now) told.size_is c.saturating_add-place.ensures c.min-end.ensures (omega (arith, fits)) count refl part (read told)
    ∙ ap (λ found. take (length c.args.into.now) (drop c.args.at (take (stretch.end - stretch.first) (drop stretch.first (archive_bytes state account found))))) (sym stored)

pub returns-clause-count : goal.returns-clause-count
returns-clause-count g c =
    let stretch = c.args.stretch.now in
    let fits : c.min-end.result < 18446744073709551616 = c.min-end.type_inv in
    let count = c.min-n.ensures ∙ ap (min (length c.args.into.now)) c.saturating_sub.ensures in
    subst (λ found. IfSome found (λ archive. stretch.end ≤ archive.size → c.min-n.result ≡ min (length c.args.into.now) (stretch.end - stretch.first - c.args.at))) c.in-Some.ensures
    (λ within. omega (arith, count, fits, within, c.min-end.ensures, c.saturating_add-place.ensures))
