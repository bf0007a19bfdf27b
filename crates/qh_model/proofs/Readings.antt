-- In each form, a byte string has one list of points, or one fault.
use Rattle.qh_model.specs.declared.form.Form.TheVariants.{Qhull, Off}
use Rattle.qh_model.specs.laws.Readings.{ReadsOneList, HasListOrFault, IsNeverBoth}
use Rattle.qh_model.proofs.PointFileLaws as point_file
use Rattle.qh_model.proofs.OffReadingLaws as off_file

pub one_list : ReadsOneList
one_list Qhull = point_file.one_reading
one_list Off = off_file.one_reading

pub list_or_fault : HasListOrFault
list_or_fault Qhull = point_file.one_or_other
list_or_fault Off = off_file.one_or_other

pub never_both : IsNeverBoth
never_both Qhull = point_file.never_both
never_both Off = off_file.never_both
