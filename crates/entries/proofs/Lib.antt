mod Raises
