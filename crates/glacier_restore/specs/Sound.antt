-- What a snapshot's items ask of an account beside what is lawful: that each of its sizes is one, and that its lines are an inventory's.
use Rattle.std.specs.Prelude.{◌≡◌, ℕ, ◌<◌, ◌≤◌, List, [], ◌∷◌, IfSome}
use Rattle.std.specs.FinMap as map
use Rattle.std.specs.List.{AllByRecursion}
use Rattle.glacier_vault.specs.declared.job.Line.{Line}
use Rattle.glacier_vault.specs.declared.job.Stage.{Stage}
use Rattle.glacier_vault.specs.declared.job.Stage.TheVariants as stages
use Rattle.glacier_vault.specs.declared.job.Work.{Work}
use Rattle.glacier_vault.specs.declared.job.Work.TheVariants as works
use Rattle.glacier_vault.specs.declared.state.AccountState.{AccountState}
use Rattle.glacier_vault.specs.declared.state.VaultState.{VaultState}

-- each line's archive has a byte, and a number below those of the lines behind it
abbrev pub AreLines : List Line → Type 0
AreLines [] = Unit {0}
AreLines (line ∷ lines) = (1 ≤ line.size) × AllByRecursion (λ next. line.archive < next.archive) lines × AreLines lines

-- what a job that is done gave: a retrieval gives no lines
abbrev pub HasLines : Work → Stage → Type 0
HasLines (works.Archive archive size tree first end range) (stages.Done lines) = lines ≡ []
HasLines (works.Inventory csv) (stages.Done lines) = AreLines lines
HasLines work stages.Waiting = Unit {0}
HasLines work stages.Failed = Unit {0}

pub record IsSoundVault (vault : VaultState) : Type 0 where
  pub finished : (n : ℕ) → IfSome (map.get vault.finished n) (λ upload. 1 ≤ upload.size)
  pub jobs : (n : ℕ) → IfSome (map.get vault.jobs n) (λ job. HasLines job.work job.stage)

-- an account that a snapshot restores
pub record IsSound (account : AccountState) : Type 0 where
  pub vaults : (name : List ℕ) → IfSome (map.get account.vaults name) IsSoundVault
