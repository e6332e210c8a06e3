-- Which error a failed call of the sink becomes.
use Rattle.sdcl_io.specs.declared.world.Failed.{Failed}
use Rattle.sdcl_io.specs.declared.world.Failed.TheVariants as failed
use Rattle.sdcl_convert.specs.declared.writing.ConvertError.{ConvertError}
use Rattle.sdcl_convert.specs.declared.writing.ConvertError.TheVariants as error

abbrev pub convert_error : Failed → ConvertError
convert_error failed.Fault = error.WriteFault
convert_error failed.NoMemory = error.NoMemory
