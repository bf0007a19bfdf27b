-- The contract view of settings.
use Rattle.std.specs.Prelude.{ℕ, List}
use Rattle.qh_model.specs.declared.{form.Form.Form, out.Out.Out}

pub record SettingsValue : Type 0 where
  pub workers : ℕ
  pub block : ℕ
  pub outs : List Out
  pub form : Form
