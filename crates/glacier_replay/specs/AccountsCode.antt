-- The code of the accounts, by which a proof tells two of them apart.
use Rattle.std.specs.Prelude.{ℕ, Option, refl}
use Rattle.std.specs.Cmp.Lexicographic.{slice_cmp}
use Rattle.std.specs.Coded.{Coded, code_by, coded×, coded_ℕ, coded_option}
use Rattle.std.specs.FinMap as map
use Rattle.std.specs.Ordering.{nat_cmp}
use Rattle.glacier_vault.specs.declared.state.AccountState.{AccountState}
use Rattle.glacier_vault.specs.declared.state.VaultState.{VaultState}
use Rattle.glacier_vault.specs.Accounts.{Accounts}
use Rattle.glacier_replay.specs.PolicyCode.{bytes_code}
use Rattle.glacier_replay.specs.VaultCode.{vault_code}

account_code : Coded AccountState
account_code =
    code_by (ℕ × (ℕ × (map.FinMap (slice_cmp nat_cmp) VaultState × (ℕ × (ℕ × (ℕ × (Option ℕ × ℕ))))))) (coded× coded_ℕ (coded× coded_ℕ (coded× (map.code bytes_code vault_code) (coded× coded_ℕ (coded× coded_ℕ (coded× coded_ℕ (coded× (coded_option coded_ℕ) coded_ℕ)))))))
    (λ a. (a.last, (a.counter, (a.vaults, (a.used, (a.uploads, (a.jobs, (a.due, a.length))))))))
    (λ p. record { last = p.0; counter = p.1.0; vaults = p.1.1.0; used = p.1.1.1.0; uploads = p.1.1.1.1.0; jobs = p.1.1.1.1.1.0; due = p.1.1.1.1.1.1.0; length = p.1.1.1.1.1.1.1 })
    (λ _. refl)

pub accounts_code : Coded Accounts
accounts_code = map.code bytes_code account_code
