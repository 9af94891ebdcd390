use Rattle.std.proofs.Common.{◌≡◌, drop}
use Rattle.glacier_base.specs.Maps.{changed_at_each}
use Rattle.glacier_vault.specs.Lengths.{snapshot_length}
use Rattle.glacier_job.specs.Pass.{passed}
use Rattle.glacier_job.proofs.settling.settle_vaults.Given as goal

abbrev pub invariant-loop-name : goal.invariant-loop-name
invariant-loop-name l = record {
  last : l.state.last ≡ l.fn.state.last;
  counter : l.state.counter ≡ l.fn.state.counter;
  used : l.state.used ≡ l.fn.state.used;
  uploads : l.state.uploads ≡ l.fn.state.uploads;
  jobs : l.state.jobs ≡ l.fn.state.jobs;
  due : l.state.due ≡ l.fn.state.due;
  vaults : changed_at_each (passed l.m) (drop l.name-index l.name-items) l.state.vaults ≡ changed_at_each (passed l.m) l.name-items l.fn.state.vaults;
  length : l.state.length ≡ snapshot_length l.state.vaults;
}
